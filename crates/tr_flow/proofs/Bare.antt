-- What has no call, no branch and no temp has none in its operands.
use Rattle.std.proofs.Common.{◌≡◌, ℕ, Bool, true, false, not, ◌&&◌, List, [], ◌∷◌, ◌++◌, refl, sym, ◌∙◌, ap}
use Rattle.std.proofs.lemmas.Bool.{true≢false}
use Rattle.sc_tree.specs.declared.op.BinaryOp.{BinaryOp}
use Rattle.sc_tree.specs.declared.op.AssignOp.{AssignOp}
use Rattle.sc_tree.specs.declared.ctype.CType.{CType}
use Rattle.sc_typed.specs.declared.expr.TExpr.{TExpr, out-TExpr}
use Rattle.sc_typed.specs.declared.expr.What.TheVariants as what
use Rattle.sc_world.specs.Tree.{Exp}
use Rattle.sc_world.specs.Source.{Struct}
use Rattle.sc_world.specs.View.{exp}
use Rattle.sc_world.specs.Eval.{is_logical}
use Rattle.flow_graph.specs.Conditions.{is_plain, temps_of}
use Rattle.tr_walk.proofs.Seen as seen
use Rattle.tr_flow.specs.Taken.{is_bare, is_none}

none_both : (ms ns : List ℕ) → is_none (ms ++ ns) ≡ is_none ms && is_none ns
none_both [] ns = refl
none_both (m ∷ ms) ns = refl

and_both : (a b c d : Bool) → (a && b) && (c && d) ≡ (a && c) && (b && d)
and_both true true c d = refl
and_both true false true d = refl
and_both true false false d = refl
and_both false b c d = refl

and_three : (a b c : Bool) → (a && b) && c ≡ a && (b && c)
and_three true b c = refl
and_three false b c = refl

pub both : (x y : Exp) → (is_plain x && is_plain y) && is_none (temps_of x ++ temps_of y) ≡ is_bare x && is_bare y
both x y =
    ap (λ n. (is_plain x && is_plain y) && n) (none_both (temps_of x) (temps_of y))
    ∙ and_both (is_plain x) (is_plain y) (is_none (temps_of x)) (is_none (temps_of y))

pub unless : (o : BinaryOp) (x y : Exp) → (not (is_logical o) && (is_plain x && is_plain y)) && is_none (temps_of x ++ temps_of y)
    ≡ not (is_logical o) && (is_bare x && is_bare y)
unless o x y =
    and_three (not (is_logical o)) (is_plain x && is_plain y) (is_none (temps_of x ++ temps_of y))
    ∙ ap (λ b. not (is_logical o) && b) (both x y)

-- An expression of two operands, in the words of the code: the second operand is asked where the first one is bare.
module _ (structs : List Struct) (e x y x' y' : TExpr) (same_x : x' ≡ x) (same_y : y' ≡ y) where
  abbrev IsOfBoth : Type 0
  IsOfBoth = is_bare (exp structs e) ≡ is_bare (exp structs x') && is_bare (exp structs y')

  pub comma : (out-TExpr e).what ≡ what.Comma x y → IsOfBoth
  comma is = ap is_bare (seen.comma structs e x y x' y' is same_x same_y) ∙ both (exp structs x') (exp structs y')

  pub index : (out-TExpr e).what ≡ what.Index x y → IsOfBoth
  index is = ap is_bare (seen.index structs e x y x' y' is same_x same_y) ∙ both (exp structs x') (exp structs y')

  pub assign : (o : AssignOp) (works : CType) → (out-TExpr e).what ≡ what.Assign o works x y → IsOfBoth
  assign o works is = ap is_bare (seen.assign structs e o works x y x' y' is same_x same_y) ∙ both (exp structs x') (exp structs y')

  pub binary : (o : BinaryOp) → (out-TExpr e).what ≡ what.Binary o x y → not (is_logical o) ≡ true → IsOfBoth
  binary o is plain =
      ap is_bare (seen.binary structs e o x y x' y' is same_x same_y) ∙ unless o (exp structs x') (exp structs y')
      ∙ ap (λ b. b && (is_bare (exp structs x') && is_bare (exp structs y'))) plain

pub second : (a b c r s : Bool) → a ≡ b && c → r ≡ true → r ≡ b → s ≡ c → s ≡ a
second a true c r s both is left right = right ∙ sym both
second a false c r s both is left right = absurd (true≢false (sym is ∙ left))

pub first : (a b c r : Bool) → a ≡ b && c → r ≡ false → r ≡ b → r ≡ a
first a true c r both is left = absurd (true≢false (sym left ∙ is))
first a false c r both is left = left ∙ sym both

-- what names no temp
none_is : (ns : List ℕ) → is_none ns ≡ true → ns ≡ []
none_is [] e = refl
none_is (n ∷ ns) e = absurd (true≢false (sym e))

right_holds : (a b : Bool) → a && b ≡ true → b ≡ true
right_holds true b e = e
right_holds false b e = absurd (true≢false (sym e))

pub bare_reads : (e : Exp) → is_bare e ≡ true → temps_of e ≡ []
bare_reads e h = none_is (temps_of e) (right_holds (is_plain e) (is_none (temps_of e)) h)
