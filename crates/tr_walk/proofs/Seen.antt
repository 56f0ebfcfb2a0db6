-- Which tree of runs a typed expression is, by its form; x' and y' are its operands once more, out of their boxes.
use Rattle.std.proofs.Common.{◌≡◌, ℕ, Bool, Option, List, sym, ap, ◌∙◌}
use Rattle.std.specs.Prelude.{ℤ}
use Rattle.sc_base.specs.declared.pos.NameId.{NameId}
use Rattle.sc_tree.specs.declared.op.BinaryOp.{BinaryOp}
use Rattle.sc_tree.specs.declared.op.AssignOp.{AssignOp}
use Rattle.sc_tree.specs.declared.op.UnaryOp.{UnaryOp}
use Rattle.sc_tree.specs.declared.op.Step.{Step}
use Rattle.sc_tree.specs.declared.ctype.CType.{CType}
use Rattle.sc_tree.specs.declared.expr.Place.{Place}
use Rattle.sc_typed.specs.declared.expr.TExpr.{TExpr, out-TExpr}
use Rattle.sc_typed.specs.declared.expr.What.{What, What-F, roll-What}
use Rattle.sc_typed.specs.declared.expr.What.TheVariants as what
use Rattle.sc_typed.specs.declared.expr.What.TheFolds as folds
use Rattle.sc_typed.specs.Arith.{wrapped}
use Rattle.sc_world.specs.Tree.{Ty, Exp, Comma, Assign, Binary, Cast, Unary, PreInc, PostInc, SizeofExpr, SizeofType, Index, Field, Param, Local, Global, Function, Number, Str, Convert, Temp, TempPlace}
use Rattle.sc_world.specs.Source.{Struct}
use Rattle.sc_world.specs.View.{type, operator, exp, exp_step, placed, member_name}

module _ (structs : List Struct) (e : TExpr) where
  abbrev form : What → Ty → Place → Exp
  form = folds.fold-What (Ty → Place → Exp) Exp (exp_step structs) placed

  abbrev t : Ty
  t = type (out-TExpr e).ctype

  by_form : (w : What) (y : What-F What TExpr) → (out-TExpr e).what ≡ w → roll-What y ≡ w
      → exp structs e ≡ exp_step structs (folds.map-What What TExpr (Ty → Place → Exp) Exp form (exp structs) y) t (out-TExpr e).place
  by_form w y is rolls =
      folds.fold_out-TExpr (Ty → Place → Exp) Exp (exp_step structs) placed e
      ∙ ap (λ v. form v t (out-TExpr e).place) (is ∙ sym rolls)
      ∙ ap (λ f. f t (out-TExpr e).place) (folds.fold-roll-What (Ty → Place → Exp) Exp (exp_step structs) placed y)

  pub comma : (x y x' y' : TExpr) → (out-TExpr e).what ≡ what.Comma x y → x' ≡ x → y' ≡ y → exp structs e ≡ Comma (exp structs x') (exp structs y') t
  comma x y x' y' is same_x same_y =
      by_form (what.Comma x y) (What-F.Comma x y) is (what.rolls-Comma x y)
      ∙ ap (λ z. Comma (exp structs z) (exp structs y) t) (sym same_x) ∙ ap (λ z. Comma (exp structs x') (exp structs z) t) (sym same_y)

  pub assign : (o : AssignOp) (works : CType) (x y x' y' : TExpr) → (out-TExpr e).what ≡ what.Assign o works x y → x' ≡ x → y' ≡ y
      → exp structs e ≡ Assign (operator o) (type works) (exp structs x') (exp structs y') t
  assign o works x y x' y' is same_x same_y =
      by_form (what.Assign o works x y) (What-F.Assign o works x y) is (what.rolls-Assign o works x y)
      ∙ ap (λ z. Assign (operator o) (type works) (exp structs z) (exp structs y) t) (sym same_x)
      ∙ ap (λ z. Assign (operator o) (type works) (exp structs x') (exp structs z) t) (sym same_y)

  pub binary : (o : BinaryOp) (x y x' y' : TExpr) → (out-TExpr e).what ≡ what.Binary o x y → x' ≡ x → y' ≡ y
      → exp structs e ≡ Binary o (exp structs x') (exp structs y') t
  binary o x y x' y' is same_x same_y =
      by_form (what.Binary o x y) (What-F.Binary o x y) is (what.rolls-Binary o x y)
      ∙ ap (λ z. Binary o (exp structs z) (exp structs y) t) (sym same_x) ∙ ap (λ z. Binary o (exp structs x') (exp structs z) t) (sym same_y)

  pub index : (x y x' y' : TExpr) → (out-TExpr e).what ≡ what.Index x y → x' ≡ x → y' ≡ y → exp structs e ≡ Index (exp structs x') (exp structs y') t
  index x y x' y' is same_x same_y =
      by_form (what.Index x y) (What-F.Index x y) is (what.rolls-Index x y)
      ∙ ap (λ z. Index (exp structs z) (exp structs y) t) (sym same_x) ∙ ap (λ z. Index (exp structs x') (exp structs z) t) (sym same_y)

  pub cast : (x x' : TExpr) → (out-TExpr e).what ≡ what.Cast x → x' ≡ x → exp structs e ≡ Cast (exp structs x') t
  cast x x' is same = by_form (what.Cast x) (What-F.Cast x) is (what.rolls-Cast x) ∙ ap (λ z. Cast (exp structs z) t) (sym same)

  pub convert : (x x' : TExpr) → (out-TExpr e).what ≡ what.Convert x → x' ≡ x → exp structs e ≡ Convert (exp structs x') t
  convert x x' is same = by_form (what.Convert x) (What-F.Convert x) is (what.rolls-Convert x) ∙ ap (λ z. Convert (exp structs z) t) (sym same)

  pub unary : (o : UnaryOp) (x x' : TExpr) → (out-TExpr e).what ≡ what.Unary o x → x' ≡ x → exp structs e ≡ Unary o (exp structs x') t
  unary o x x' is same = by_form (what.Unary o x) (What-F.Unary o x) is (what.rolls-Unary o x) ∙ ap (λ z. Unary o (exp structs z) t) (sym same)

  pub before : (d : Step) (x x' : TExpr) → (out-TExpr e).what ≡ what.PreInc d x → x' ≡ x → exp structs e ≡ PreInc d (exp structs x') t
  before d x x' is same = by_form (what.PreInc d x) (What-F.PreInc d x) is (what.rolls-PreInc d x) ∙ ap (λ z. PreInc d (exp structs z) t) (sym same)

  pub after : (d : Step) (x x' : TExpr) → (out-TExpr e).what ≡ what.PostInc d x → x' ≡ x → exp structs e ≡ PostInc d (exp structs x') t
  after d x x' is same = by_form (what.PostInc d x) (What-F.PostInc d x) is (what.rolls-PostInc d x) ∙ ap (λ z. PostInc d (exp structs z) t) (sym same)

  pub field : (x x' : TExpr) (n k : ℕ) (arrow : Bool) → (out-TExpr e).what ≡ what.Field x n k arrow → x' ≡ x
      → exp structs e ≡ Field (exp structs x') (member_name structs n k) arrow t
  field x x' n k arrow is same =
      by_form (what.Field x n k arrow) (What-F.Field x n k arrow) is (what.rolls-Field x n k arrow)
      ∙ ap (λ z. Field (exp structs z) (member_name structs n k) arrow t) (sym same)

  pub param : (n : ℕ) → (out-TExpr e).what ≡ what.Param n → exp structs e ≡ Param n t
  param n is = by_form (what.Param n) (What-F.Param n) is (what.rolls-Param n)

  pub local : (n : ℕ) → (out-TExpr e).what ≡ what.Local n → exp structs e ≡ Local n t
  local n is = by_form (what.Local n) (What-F.Local n) is (what.rolls-Local n)

  pub global : (n : ℕ) → (out-TExpr e).what ≡ what.Global n → exp structs e ≡ Global n t
  global n is = by_form (what.Global n) (What-F.Global n) is (what.rolls-Global n)

  pub function : (n : NameId) (b : Option ℕ) → (out-TExpr e).what ≡ what.Function n b → exp structs e ≡ Function n b t
  function n b is = by_form (what.Function n b) (What-F.Function n b) is (what.rolls-Function n b)

  pub string : (n : ℕ) → (out-TExpr e).what ≡ what.Str n → exp structs e ≡ Str (out-TExpr e).place t
  string n is = by_form (what.Str n) (What-F.Str n) is (what.rolls-Str n)

  pub integer : (n : ℕ) → (out-TExpr e).what ≡ what.Int n → exp structs e ≡ Number n t
  integer n is = by_form (what.Int n) (What-F.Int n) is (what.rolls-Int n)

  pub character : (c : ℤ) → (out-TExpr e).what ≡ what.Char c → exp structs e ≡ Number (wrapped 32 c) t
  character c is = by_form (what.Char c) (What-F.Char c) is (what.rolls-Char c)

  pub size : (x : TExpr) (n : ℕ) → (out-TExpr e).what ≡ what.SizeofExpr x n → exp structs e ≡ SizeofExpr (exp structs x) n t
  size x n is = by_form (what.SizeofExpr x n) (What-F.SizeofExpr x n) is (what.rolls-SizeofExpr x n)

  pub size_of : (n : ℕ) → (out-TExpr e).what ≡ what.SizeofType n → exp structs e ≡ SizeofType n t
  size_of n is = by_form (what.SizeofType n) (What-F.SizeofType n) is (what.rolls-SizeofType n)

  pub temp : (n : ℕ) → (out-TExpr e).what ≡ what.Temp n → exp structs e ≡ Temp n t
  temp n is = by_form (what.Temp n) (What-F.Temp n) is (what.rolls-Temp n)

  pub temp_place : (n : ℕ) → (out-TExpr e).what ≡ what.TempPlace n → exp structs e ≡ TempPlace n t
  temp_place n is = by_form (what.TempPlace n) (What-F.TempPlace n) is (what.rolls-TempPlace n)
