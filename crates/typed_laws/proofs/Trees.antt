-- Expressions as typing has them and as runs have them.
use Rattle.std.proofs.Common.{◌≡◌, ℕ, Bool, true, false, ◌||◌, not, List, [], ◌∷◌, map, refl, sym, ap, subst, ◌∙◌}
use Rattle.std.specs.Prelude.{Option, Some, None, ℤ}
use Rattle.sc_base.specs.declared.pos.NameId.{NameId}
use Rattle.sc_tree.specs.declared.op.BinaryOp.{BinaryOp}
use Rattle.sc_tree.specs.declared.op.AssignOp.{AssignOp}
use Rattle.sc_tree.specs.declared.op.UnaryOp.{UnaryOp}
use Rattle.sc_tree.specs.declared.op.UnaryOp.TheVariants as sign
use Rattle.sc_tree.specs.declared.op.Step.{Step}
use Rattle.sc_tree.specs.declared.ctype.CType.{CType}
use Rattle.sc_tree.specs.declared.expr.Place.{Place}
use Rattle.sc_typed.specs.declared.expr.TExpr.{TExpr, TExpr-F, out-TExpr, roll-TExpr}
use Rattle.sc_typed.specs.declared.expr.What.{What, What-F, out-What, roll-What}
use Rattle.sc_typed.specs.declared.expr.What.TheVariants as what
use Rattle.sc_typed.specs.declared.expr.What.TheFolds as folds
use Rattle.sc_typed.specs.Arith.{wrapped}
use Rattle.sc_typed.specs.Constants.{is_lvalue, lvalue_what}
use Rattle.sc_rules.specs.Conversions.{node, type_of}
use Rattle.sc_world.specs.Tree as tree
use Rattle.sc_world.specs.Tree.{Ty, Exp, Exps, Comma, Assign, Cond, Binary, Cast, Unary, PreInc, PostInc, SizeofExpr, SizeofType, Index, Call, Field, Param, Local, Global, Function, Number, Str, Convert, Temp, TempPlace}
use Rattle.sc_world.specs.Source.{Struct}
use Rattle.sc_world.specs.View.{type, operator, exps, exp, exp_step, placed, member_name}

module _ (structs : List Struct) where
  abbrev pub form : What → Ty → Place → Exp
  form = folds.fold-What (Ty → Place → Exp) Exp (exp_step structs) placed

  pub node_seen : (w : What) (t : CType) (p : Place) → exp structs (node w t p) ≡ form w (type t) p
  node_seen w t p = folds.fold-roll-TExpr (Ty → Place → Exp) Exp (exp_step structs) placed (record { what = w; ctype = t; place = p })

  form_seen : (y : What-F What TExpr) → form (roll-What y) ≡ exp_step structs (folds.map-What What TExpr (Ty → Place → Exp) Exp form (exp structs) y)
  form_seen y = folds.fold-roll-What (Ty → Place → Exp) Exp (exp_step structs) placed y

  by_form : (w : What) (y : What-F What TExpr) (t : CType) (p : Place) → roll-What y ≡ w → exp structs (node w t p) ≡ exp_step structs (folds.map-What What TExpr (Ty → Place → Exp) Exp form (exp structs) y) (type t) p
  by_form w y t p rolls = node_seen w t p ∙ ap (λ v. form v (type t) p) (sym rolls) ∙ ap (λ f. f (type t) p) (form_seen y)

  pub comma_seen : (a b : TExpr) (t : CType) (p : Place) → exp structs (node (what.Comma a b) t p) ≡ Comma (exp structs a) (exp structs b) (type t)
  comma_seen a b t p = by_form (what.Comma a b) (What-F.Comma a b) t p (what.rolls-Comma a b)

  pub assign_seen : (o : AssignOp) (works : CType) (a b : TExpr) (t : CType) (p : Place) → exp structs (node (what.Assign o works a b) t p) ≡ Assign (operator o) (type works) (exp structs a) (exp structs b) (type t)
  assign_seen o works a b t p = by_form (what.Assign o works a b) (What-F.Assign o works a b) t p (what.rolls-Assign o works a b)

  pub cond_seen : (a b c : TExpr) (t : CType) (p : Place) → exp structs (node (what.Cond a b c) t p) ≡ Cond (exp structs a) (exp structs b) (exp structs c) (type t)
  cond_seen a b c t p = by_form (what.Cond a b c) (What-F.Cond a b c) t p (what.rolls-Cond a b c)

  pub binary_seen : (o : BinaryOp) (a b : TExpr) (t : CType) (p : Place) → exp structs (node (what.Binary o a b) t p) ≡ Binary o (exp structs a) (exp structs b) (type t)
  binary_seen o a b t p = by_form (what.Binary o a b) (What-F.Binary o a b) t p (what.rolls-Binary o a b)

  pub cast_seen : (a : TExpr) (t : CType) (p : Place) → exp structs (node (what.Cast a) t p) ≡ Cast (exp structs a) (type t)
  cast_seen a t p = by_form (what.Cast a) (What-F.Cast a) t p (what.rolls-Cast a)

  pub unary_seen : (o : UnaryOp) (a : TExpr) (t : CType) (p : Place) → exp structs (node (what.Unary o a) t p) ≡ Unary o (exp structs a) (type t)
  unary_seen o a t p = by_form (what.Unary o a) (What-F.Unary o a) t p (what.rolls-Unary o a)

  pub pre_seen : (d : Step) (a : TExpr) (t : CType) (p : Place) → exp structs (node (what.PreInc d a) t p) ≡ PreInc d (exp structs a) (type t)
  pre_seen d a t p = by_form (what.PreInc d a) (What-F.PreInc d a) t p (what.rolls-PreInc d a)

  pub post_seen : (d : Step) (a : TExpr) (t : CType) (p : Place) → exp structs (node (what.PostInc d a) t p) ≡ PostInc d (exp structs a) (type t)
  post_seen d a t p = by_form (what.PostInc d a) (What-F.PostInc d a) t p (what.rolls-PostInc d a)

  pub sizeof_seen : (a : TExpr) (n : ℕ) (t : CType) (p : Place) → exp structs (node (what.SizeofExpr a n) t p) ≡ SizeofExpr (exp structs a) n (type t)
  sizeof_seen a n t p = by_form (what.SizeofExpr a n) (What-F.SizeofExpr a n) t p (what.rolls-SizeofExpr a n)

  pub sizeof_type_seen : (n : ℕ) (t : CType) (p : Place) → exp structs (node (what.SizeofType n) t p) ≡ SizeofType n (type t)
  sizeof_type_seen n t p = by_form (what.SizeofType n) (What-F.SizeofType n) t p (what.rolls-SizeofType n)

  pub index_seen : (a b : TExpr) (t : CType) (p : Place) → exp structs (node (what.Index a b) t p) ≡ Index (exp structs a) (exp structs b) (type t)
  index_seen a b t p = by_form (what.Index a b) (What-F.Index a b) t p (what.rolls-Index a b)

  pub call_seen : (f : TExpr) (es : List TExpr) (t : CType) (p : Place) → exp structs (node (what.Call f es) t p) ≡ Call p (exp structs f) (exps (map (exp structs) es)) (type t)
  call_seen f es t p = by_form (what.Call f es) (What-F.Call f es) t p (what.rolls-Call f es)

  pub field_seen : (a : TExpr) (n k : ℕ) (arrow : Bool) (t : CType) (p : Place) → exp structs (node (what.Field a n k arrow) t p) ≡ Field (exp structs a) (member_name structs n k) arrow (type t)
  field_seen a n k arrow t p = by_form (what.Field a n k arrow) (What-F.Field a n k arrow) t p (what.rolls-Field a n k arrow)

  pub param_seen : (n : ℕ) (t : CType) (p : Place) → exp structs (node (what.Param n) t p) ≡ Param n (type t)
  param_seen n t p = by_form (what.Param n) (What-F.Param n) t p (what.rolls-Param n)

  pub local_seen : (n : ℕ) (t : CType) (p : Place) → exp structs (node (what.Local n) t p) ≡ Local n (type t)
  local_seen n t p = by_form (what.Local n) (What-F.Local n) t p (what.rolls-Local n)

  pub global_seen : (n : ℕ) (t : CType) (p : Place) → exp structs (node (what.Global n) t p) ≡ Global n (type t)
  global_seen n t p = by_form (what.Global n) (What-F.Global n) t p (what.rolls-Global n)

  pub function_seen : (n : NameId) (body : Option ℕ) (t : CType) (p : Place) → exp structs (node (what.Function n body) t p) ≡ Function n body (type t)
  function_seen n body t p = by_form (what.Function n body) (What-F.Function n body) t p (what.rolls-Function n body)

  pub int_seen : (n : ℕ) (t : CType) (p : Place) → exp structs (node (what.Int n) t p) ≡ Number n (type t)
  int_seen n t p = by_form (what.Int n) (What-F.Int n) t p (what.rolls-Int n)

  pub char_seen : (c : ℤ) (t : CType) (p : Place) → exp structs (node (what.Char c) t p) ≡ Number (wrapped 32 c) (type t)
  char_seen c t p = by_form (what.Char c) (What-F.Char c) t p (what.rolls-Char c)

  pub str_seen : (n : ℕ) (t : CType) (p : Place) → exp structs (node (what.Str n) t p) ≡ Str p (type t)
  str_seen n t p = by_form (what.Str n) (What-F.Str n) t p (what.rolls-Str n)

  pub convert_seen : (a : TExpr) (t : CType) (p : Place) → exp structs (node (what.Convert a) t p) ≡ Convert (exp structs a) (type t)
  convert_seen a t p = by_form (what.Convert a) (What-F.Convert a) t p (what.rolls-Convert a)

  -- Each expression has its type.

  of_step : (y : What-F (Ty → Place → Exp) Exp) (t : Ty) (p : Place) → tree.type_of (exp_step structs y t p) ≡ t
  of_step (What-F.Comma a b) t p = refl
  of_step (What-F.Assign o works a b) t p = refl
  of_step (What-F.Cond a b c) t p = refl
  of_step (What-F.Binary o a b) t p = refl
  of_step (What-F.Cast a) t p = refl
  of_step (What-F.Unary o a) t p = refl
  of_step (What-F.PreInc d a) t p = refl
  of_step (What-F.PostInc d a) t p = refl
  of_step (What-F.SizeofExpr a n) t p = refl
  of_step (What-F.SizeofType n) t p = refl
  of_step (What-F.Index a b) t p = refl
  of_step (What-F.Call f es) t p = refl
  of_step (What-F.Field a n k arrow) t p = refl
  of_step (What-F.Param n) t p = refl
  of_step (What-F.Local n) t p = refl
  of_step (What-F.Global n) t p = refl
  of_step (What-F.Function n body) t p = refl
  of_step (What-F.Int n) t p = refl
  of_step (What-F.Char c) t p = refl
  of_step (What-F.Str n) t p = refl
  of_step (What-F.Convert a) t p = refl
  of_step (What-F.Temp n) t p = refl
  of_step (What-F.TempPlace n) t p = refl

  pub exp_out : (e : TExpr) → exp structs e ≡ form (out-TExpr e).what (type (type_of e)) (out-TExpr e).place
  exp_out e = folds.fold_out-TExpr (Ty → Place → Exp) Exp (exp_step structs) placed e

  pub form_out : (w : What) → form w ≡ exp_step structs (folds.map-What What TExpr (Ty → Place → Exp) Exp form (exp structs) (out-What w))
  form_out w = folds.fold_out-What (Ty → Place → Exp) Exp (exp_step structs) placed w

  pub typed_of : (e : TExpr) → tree.type_of (exp structs e) ≡ type (type_of e)
  typed_of e =
      ap tree.type_of (exp_out e ∙ ap (λ f. f (type (type_of e)) (out-TExpr e).place) (form_out (out-TExpr e).what))
      ∙ of_step (folds.map-What What TExpr (Ty → Place → Exp) Exp form (exp structs) (out-What (out-TExpr e).what)) (type (type_of e)) (out-TExpr e).place

-- Lvalues.

abbrev names : What → CType → Bool
names = folds.fold-What (CType → Bool) Bool lvalue_what (λ e. e.what e.ctype)

lvalue_by : (w : What) (y : What-F What TExpr) (t : CType) (p : Place) → roll-What y ≡ w → is_lvalue (node w t p) ≡ lvalue_what (folds.map-What What TExpr (CType → Bool) Bool names is_lvalue y) t
lvalue_by w y t p rolls =
    folds.fold-roll-TExpr (CType → Bool) Bool lvalue_what (λ e. e.what e.ctype) (record { what = w; ctype = t; place = p })
    ∙ ap (λ v. names v t) (sym rolls) ∙ ap (λ f. f t) (folds.fold-roll-What (CType → Bool) Bool lvalue_what (λ e. e.what e.ctype) y)

pub comma_value : (a b : TExpr) (t : CType) (p : Place) → is_lvalue (node (what.Comma a b) t p) ≡ false
comma_value a b t p = lvalue_by (what.Comma a b) (What-F.Comma a b) t p (what.rolls-Comma a b)

pub assign_value : (o : AssignOp) (works : CType) (a b : TExpr) (t : CType) (p : Place) → is_lvalue (node (what.Assign o works a b) t p) ≡ false
assign_value o works a b t p = lvalue_by (what.Assign o works a b) (What-F.Assign o works a b) t p (what.rolls-Assign o works a b)

pub cond_value : (a b c : TExpr) (t : CType) (p : Place) → is_lvalue (node (what.Cond a b c) t p) ≡ false
cond_value a b c t p = lvalue_by (what.Cond a b c) (What-F.Cond a b c) t p (what.rolls-Cond a b c)

pub binary_value : (o : BinaryOp) (a b : TExpr) (t : CType) (p : Place) → is_lvalue (node (what.Binary o a b) t p) ≡ false
binary_value o a b t p = lvalue_by (what.Binary o a b) (What-F.Binary o a b) t p (what.rolls-Binary o a b)

pub cast_value : (a : TExpr) (t : CType) (p : Place) → is_lvalue (node (what.Cast a) t p) ≡ false
cast_value a t p = lvalue_by (what.Cast a) (What-F.Cast a) t p (what.rolls-Cast a)

pub pre_value : (d : Step) (a : TExpr) (t : CType) (p : Place) → is_lvalue (node (what.PreInc d a) t p) ≡ false
pre_value d a t p = lvalue_by (what.PreInc d a) (What-F.PreInc d a) t p (what.rolls-PreInc d a)

pub post_value : (d : Step) (a : TExpr) (t : CType) (p : Place) → is_lvalue (node (what.PostInc d a) t p) ≡ false
post_value d a t p = lvalue_by (what.PostInc d a) (What-F.PostInc d a) t p (what.rolls-PostInc d a)

pub sizeof_value : (a : TExpr) (n : ℕ) (t : CType) (p : Place) → is_lvalue (node (what.SizeofExpr a n) t p) ≡ false
sizeof_value a n t p = lvalue_by (what.SizeofExpr a n) (What-F.SizeofExpr a n) t p (what.rolls-SizeofExpr a n)

pub sizeof_type_value : (n : ℕ) (t : CType) (p : Place) → is_lvalue (node (what.SizeofType n) t p) ≡ false
sizeof_type_value n t p = lvalue_by (what.SizeofType n) (What-F.SizeofType n) t p (what.rolls-SizeofType n)

pub call_value : (f : TExpr) (es : List TExpr) (t : CType) (p : Place) → is_lvalue (node (what.Call f es) t p) ≡ false
call_value f es t p = lvalue_by (what.Call f es) (What-F.Call f es) t p (what.rolls-Call f es)

pub function_value : (n : NameId) (body : Option ℕ) (t : CType) (p : Place) → is_lvalue (node (what.Function n body) t p) ≡ false
function_value n body t p = lvalue_by (what.Function n body) (What-F.Function n body) t p (what.rolls-Function n body)

pub int_value : (n : ℕ) (t : CType) (p : Place) → is_lvalue (node (what.Int n) t p) ≡ false
int_value n t p = lvalue_by (what.Int n) (What-F.Int n) t p (what.rolls-Int n)

pub char_value : (c : ℤ) (t : CType) (p : Place) → is_lvalue (node (what.Char c) t p) ≡ false
char_value c t p = lvalue_by (what.Char c) (What-F.Char c) t p (what.rolls-Char c)

pub convert_value : (a : TExpr) (t : CType) (p : Place) → is_lvalue (node (what.Convert a) t p) ≡ false
convert_value a t p = lvalue_by (what.Convert a) (What-F.Convert a) t p (what.rolls-Convert a)

pub address_value : (a : TExpr) (t : CType) (p : Place) → is_lvalue (node (what.Unary sign.Address a) t p) ≡ false
address_value a t p = lvalue_by (what.Unary sign.Address a) (What-F.Unary sign.Address a) t p (what.rolls-Unary sign.Address a)

pub not_value : (a : TExpr) (t : CType) (p : Place) → is_lvalue (node (what.Unary sign.Not a) t p) ≡ false
not_value a t p = lvalue_by (what.Unary sign.Not a) (What-F.Unary sign.Not a) t p (what.rolls-Unary sign.Not a)

pub plus_value : (a : TExpr) (t : CType) (p : Place) → is_lvalue (node (what.Unary sign.Plus a) t p) ≡ false
plus_value a t p = lvalue_by (what.Unary sign.Plus a) (What-F.Unary sign.Plus a) t p (what.rolls-Unary sign.Plus a)

pub minus_value : (a : TExpr) (t : CType) (p : Place) → is_lvalue (node (what.Unary sign.Minus a) t p) ≡ false
minus_value a t p = lvalue_by (what.Unary sign.Minus a) (What-F.Unary sign.Minus a) t p (what.rolls-Unary sign.Minus a)

pub complement_value : (a : TExpr) (t : CType) (p : Place) → is_lvalue (node (what.Unary sign.Complement a) t p) ≡ false
complement_value a t p = lvalue_by (what.Unary sign.Complement a) (What-F.Unary sign.Complement a) t p (what.rolls-Unary sign.Complement a)
