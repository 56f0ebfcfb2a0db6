-- A value of a plain type stays as it is.
use Rattle.std.proofs.Common.{◌≡◌, true, Some, refl}
use Rattle.std.proofs.lemmas.Bool.{false≢true}
use Rattle.sc_tree.specs.declared.ctype.CType.{CType, CType-F, out-CType}
use Rattle.sc_tree.specs.declared.ctype.Signature.{Signature}
use Rattle.sc_typed.specs.declared.expr.TExpr.{TExpr}
use Rattle.sc_rules.specs.declared.walk.Walk.{Walk}
use Rattle.sc_rules.specs.Conversions.{type_of, decayed_layer, convert_if, opaque_layer, value_unless, value}
use Rattle.sc_rules.specs.Plain.{plain_layer, is_plain}

plain_by : (l : CType-F CType Signature) (e : TExpr) (w : Walk) → plain_layer l ≡ true
    → value_unless (opaque_layer l) (convert_if (decayed_layer l) e) w ≡ (Some e, w)
plain_by CType-F.Void e w is = refl
plain_by CType-F.Bool e w is = refl
plain_by (CType-F.Int k) e w is = refl
plain_by (CType-F.Ptr t) e w is = refl
plain_by (CType-F.Array t n) e w is = absurd (false≢true is)
plain_by (CType-F.Struct n) e w is = refl
plain_by (CType-F.Union n) e w is = refl
plain_by (CType-F.Func s) e w is = absurd (false≢true is)
plain_by (CType-F.Opaque k) e w is = absurd (false≢true is)

pub plain_value : (e : TExpr) (w : Walk) → is_plain (type_of e) ≡ true → value e w ≡ (Some e, w)
plain_value e w is = plain_by (out-CType (type_of e)) e w is
