-- Items that are all expressions are those that are there.
use Rattle.std.proofs.Common.{◌≡◌, true, false, ◌&&◌, Option, Some, None, is_some, List, [], ◌∷◌, refl, sym, ap}
use Rattle.std.proofs.lemmas.Bool.{false≢true}
use Rattle.sc_tree.specs.declared.expr.Expr.{Expr}
use Rattle.sc_tree.specs.declared.decl.InitItem.{InitItem}
use Rattle.sc_fill.specs.Initialisers.{in_front}
use Rattle.sc_declarations.specs.Initialisers.{item_expression, item_expressions, with_expression}
use Rattle.sc_declarations.specs.Initialisers.{expressions_there, all_expressions}

front_there : (e : Option Expr) (xs : List InitItem) → (is_some e && all_expressions xs) ≡ true
    → (all_expressions xs ≡ true → item_expressions xs ≡ Some (expressions_there xs))
    → in_front e (item_expressions xs) ≡ Some (with_expression e (expressions_there xs))
front_there None xs there rest = absurd (false≢true there)
front_there (Some e) xs there rest = ap (λ es. in_front (Some e) es) (rest there)

pub whole : (xs : List InitItem) → all_expressions xs ≡ true → item_expressions xs ≡ Some (expressions_there xs)
whole [] there = refl
whole (x ∷ xs) there = front_there (item_expression x) xs there (whole xs)

front_gap : (e : Option Expr) (xs : List InitItem) → (is_some e && all_expressions xs) ≡ false
    → (all_expressions xs ≡ false → item_expressions xs ≡ None)
    → in_front e (item_expressions xs) ≡ None
front_gap None xs gap rest = refl
front_gap (Some e) xs gap rest = ap (λ es. in_front (Some e) es) (rest gap)

pub gap : (xs : List InitItem) → all_expressions xs ≡ false → item_expressions xs ≡ None
gap [] missing = absurd (false≢true (sym missing))
gap (x ∷ xs) missing = front_gap (item_expression x) xs missing (gap xs)
