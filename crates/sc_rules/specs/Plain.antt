-- Types whose values stay as they are: all but arrays, functions and opaque types (C11 6.3.2.1).
use Rattle.std.specs.Prelude.{Bool, true, false}
use Rattle.sc_tree.specs.declared.ctype.CType.{CType, CType-F, out-CType}
use Rattle.sc_tree.specs.declared.ctype.Signature.{Signature}

abbrev pub plain_layer : CType-F CType Signature → Bool
plain_layer (CType-F.Array t n) = false
plain_layer (CType-F.Func s) = false
plain_layer (CType-F.Opaque k) = false
plain_layer _ = true

abbrev pub is_plain : CType → Bool
is_plain t = plain_layer (out-CType t)
