-- A null pointer constant is of an integer type or of a pointer type.
use Rattle.std.proofs.Common.{◌≡◌, ◌⊎◌, ℕ, Bool, true, false, not, ◌&&◌, ◌||◌, List, [], ◌∷◌, map, refl, sym, ap, subst, ◌∙◌, inl, inr}
use Rattle.std.proofs.lemmas.Bool.{true≢false, and_parts, or_cases}
use Rattle.std.specs.Prelude.{Option, Some, None, if◌then◌else◌}
use Rattle.sc_tree.specs.declared.ctype.CType.{CType, CType-F, out-CType}
use Rattle.sc_tree.specs.declared.ctype.Signature.{Signature}
use Rattle.sc_tree.specs.declared.ctype.Widths.{Widths}
use Rattle.sc_typed.specs.declared.expr.TExpr.{TExpr, out-TExpr}
use Rattle.sc_typed.specs.declared.expr.What.{What, What-F, out-What}
use Rattle.sc_typed.specs.declared.expr.What.TheFolds as folds
use Rattle.sc_typed.specs.Types.{is_integer, is_pointer, is_void, is_void_pointer, is_void_pointer_layer, is_pointer_layer}
use Rattle.sc_typed.specs.Constants.{Folded, folded, fold_what, if_form, is_operand, value_of, is_zero, constant_bits, is_null_integer, casts_null, form_of, is_null_constant}
use Rattle.sc_rules.specs.Conversions.{type_of}

never : {A : Type 0} → false ≡ true → A
never h = absurd (true≢false (sym h))

form_type : (w : Widths) (b : Bool) (t : CType) (v : Option ℕ) → (if_form w b t v).ctype ≡ t
form_type w true t v = refl
form_type w false t v = refl

step_type : (w : Widths) (y : What-F (CType → Folded) Folded) (t : CType) → (fold_what w y t).ctype ≡ t
step_type w (What-F.Cond a b c) t = form_type w _ t _
step_type w (What-F.Binary o a b) t = form_type w _ t _
step_type w (What-F.Cast a) t = form_type w _ t _
step_type w (What-F.Unary o a) t = form_type w _ t _
step_type w (What-F.SizeofExpr a n) t = refl
step_type w (What-F.SizeofType n) t = refl
step_type w (What-F.Int n) t = refl
step_type w (What-F.Char c) t = refl
step_type w (What-F.Convert a) t = form_type w _ t _
step_type w _ t = refl

what_type : (w : Widths) (x : What) (t : CType) → (folds.fold-What (CType → Folded) Folded (fold_what w) (λ e. e.what e.ctype) x t).ctype ≡ t
what_type w x t =
    ap (λ f. (f t).ctype) (folds.fold_out-What (CType → Folded) Folded (fold_what w) (λ e. e.what e.ctype) x)
    ∙ step_type w (folds.map-What What TExpr (CType → Folded) Folded (folds.fold-What (CType → Folded) Folded (fold_what w) (λ e. e.what e.ctype)) (folded w) (out-What x)) t

folded_type : (w : Widths) (e : TExpr) → (folded w e).ctype ≡ type_of e
folded_type w e =
    ap (λ (f : Folded). f.ctype) (folds.fold_out-TExpr (CType → Folded) Folded (fold_what w) (λ e. e.what e.ctype) e)
    ∙ what_type w (out-TExpr e).what (type_of e)

operand_there : (b : Bool) (v : Option ℕ) → is_zero (if b then v else None) ≡ true → b ≡ true
operand_there true v h = refl
operand_there false v h = never h

pub null_integer : (w : Widths) (e : TExpr) → is_null_integer w e ≡ true → is_integer (type_of e) ≡ true
null_integer w e h =
    ap is_integer (sym (folded_type w e))
    ∙ (and_parts (folded w e).form (is_integer (folded w e).ctype) (operand_there (is_operand (folded w e)) (folded w e).value h)).1

void_pointer_layer : (f : CType-F CType Signature) → is_void_pointer_layer f ≡ true → is_pointer_layer f ≡ true
void_pointer_layer (CType-F.Ptr t) h = refl
void_pointer_layer _ h = never h

cast_pointer : (w : Widths) (t : CType) (y : What-F What TExpr) → casts_null w t y ≡ true → is_pointer t ≡ true
cast_pointer w t (What-F.Cast e) h = void_pointer_layer (out-CType t) (and_parts (is_void_pointer t) (is_null_integer w e) h).0
cast_pointer w t _ h = never h

pub null_scalar : (w : Widths) (e : TExpr) → is_null_constant w e ≡ true → (is_integer (type_of e) ≡ true) ⊎ (is_pointer (type_of e) ≡ true)
null_scalar w e h = side (or_cases (is_null_integer w e) (casts_null w (type_of e) (form_of e)) h)
  where
    side : (is_null_integer w e ≡ true) ⊎ (casts_null w (type_of e) (form_of e) ≡ true) → (is_integer (type_of e) ≡ true) ⊎ (is_pointer (type_of e) ≡ true)
    side (inl i) = inl (null_integer w e i)
    side (inr i) = inr (cast_pointer w (type_of e) (form_of e) i)
