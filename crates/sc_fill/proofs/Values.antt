-- Values that are all there are those that are there.
use Rattle.std.proofs.Common.{◌≡◌, true, false, ◌&&◌, Option, Some, None, is_some, List, [], ◌∷◌, refl, sym, ap}
use Rattle.std.proofs.lemmas.Bool.{false≢true}
use Rattle.sc_typed.specs.declared.expr.TExpr.{TExpr}
use Rattle.sc_fill.specs.Initialisers.{all_of, all_there, in_front, with_one, those_there}

front_there : (x : Option TExpr) (xs : List (Option TExpr)) → (is_some x && all_there xs) ≡ true → (all_there xs ≡ true → all_of xs ≡ Some (those_there xs)) → in_front x (all_of xs) ≡ Some (with_one x (those_there xs))
front_there None xs there rest = absurd (false≢true there)
front_there (Some x) xs there rest = ap (λ ys. in_front (Some x) ys) (rest there)

pub whole : (xs : List (Option TExpr)) → all_there xs ≡ true → all_of xs ≡ Some (those_there xs)
whole [] there = refl
whole (x ∷ xs) there = front_there x xs there (whole xs)

front_gap : (x : Option TExpr) (xs : List (Option TExpr)) → (is_some x && all_there xs) ≡ false → (all_there xs ≡ false → all_of xs ≡ None) → in_front x (all_of xs) ≡ None
front_gap None xs gap rest = refl
front_gap (Some x) xs gap rest = ap (λ ys. in_front (Some x) ys) (rest gap)

pub gap : (xs : List (Option TExpr)) → all_there xs ≡ false → all_of xs ≡ None
gap [] missing = absurd (false≢true (sym missing))
gap (x ∷ xs) missing = front_gap x xs missing (gap xs)
