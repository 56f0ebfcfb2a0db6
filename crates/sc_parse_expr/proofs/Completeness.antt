-- What is spelled with a height of at most the limit is read: by recursion on the limit.
use Rattle.std.proofs.Common.{◌≡◌, ℕ, zero, suc, ◌≤◌, List, ◌++◌, Some, refl, arith}
use Rattle.sc_base.specs.declared.pos.NameId.{NameId}
use Rattle.sc_tree.specs.declared.token.Token.{Token}
use Rattle.sc_tree.specs.declared.grammar.Level.{Level}
use Rattle.sc_tree.specs.declared.grammar.Naming.{Naming}
use Rattle.sc_tree.specs.declared.grammar.Specified.{Specified}
use Rattle.sc_parse_expr.specs.declared.found.Operand.{Operand}
use Rattle.sc_parse_expr.specs.declared.found.Declared.{Declared}
use Rattle.sc_parse_expr.specs.Read.{Read, read}
use Rattle.sc_parse_expr.specs.Reading.{operand, at_level, specs, declarator, wanted, parse, expr_at, specs_at, declarator_at}
use Rattle.sc_parse_expr.specs.Laws.{IsComplete}
use Rattle.sc_parse_expr.proofs.Begins.{expr_is_high, declarator_is_high}
use Rattle.sc_parse_expr.proofs.Inner.{IsInner}
use Rattle.sc_parse_expr.proofs.CompleteExpr.{level_read}
use Rattle.sc_parse_expr.proofs.CompleteSpecs.{read_specs}
use Rattle.sc_parse_expr.proofs.CompleteDeclarator.{read_declarator}

expr_from : (types : List NameId) (below : ℕ) (level : Level) (ts : List Token) (x : Read Operand)
    → at_level types (suc below) (parse types below) level ts ≡ Some x → expr_at types (suc below) level ts ≡ Some x
unfolding parse wanted
expr_from types below level ts x e = rw e refl

specs_from : (types : List NameId) (below : ℕ) (ts : List Token) (x : Read Specified) → specs types (suc below) (parse types below) ts
    ≡ Some x → specs_at types (suc below) ts ≡ Some x
unfolding parse wanted
specs_from types below ts x e = rw e refl

declarator_from : (types : List NameId) (below : ℕ) (n : Naming) (ts : List Token) (x : Read Declared)
    → declarator types (suc below) (parse types below) n ts ≡ Some x → declarator_at types (suc below) n ts ≡ Some x
unfolding parse wanted
declarator_from types below n ts x e = rw e refl

none_below : {A : Type 0} (h : ℕ) → 1 ≤ h → h ≤ 0 → A
none_below h high low = let bad : ⊥ = omega arith in absurd bad

parts_of : (types : List NameId) (below : ℕ) → IsComplete types below → IsInner types below (parse types below)
parts_of types below c = record {
  expr = c.expr;
  specs = c.specs;
  declarator = c.declarator;
}

next : (types : List NameId) (below : ℕ) → IsInner types below (parse types below) → IsComplete types (suc below)
next types below known = record {
  expr = λ level h t s rest d low ends.
      let one = level_read types below (parse types below) known level h t s rest d low ends in
      (one.0, expr_from types below level (s ++ rest) (read (operand t one.0) h rest) one.1);
  specs = λ h f s rest d low some ends. specs_from types below (s ++ rest) _ (read_specs types below (parse types below) known d low rest ends);
  declarator = λ n c h t s rest d low ends. declarator_from types below n (s ++ rest) _ (read_declarator types below (parse types below) known d low rest ends);
}

pub complete : (types : List NameId) (limit : ℕ) → IsComplete types limit
complete types zero = record {
  expr = λ level h t s rest d low ends. none_below h (expr_is_high d) low;
  specs = λ h f s rest d low some ends. none_below 1 (omega arith) some;
  declarator = λ n c h t s rest d low ends. none_below h (declarator_is_high d) low;
}
complete types (suc below) = next types below (parts_of types below (complete types below))
