-- Types (C11 6.2.5): what sort a type is, when two types are one, and when two declarations of one name
-- agree and what they then say together (C11 6.2.7).
use Rattle.std.specs.Prelude.{ℕ, ◌*◌, nat_eq, Bool, true, false, not, ◌&&◌, ◌||◌, Option, Some, None, List, [], ◌∷◌, map, if◌then◌else◌}
use Rattle.std.specs.List.{list_all}
use Rattle.sc_tree.specs.declared.ctype.IntKind.{IntKind}
use Rattle.sc_tree.specs.declared.ctype.IntKind.TheVariants as kind
use Rattle.sc_tree.specs.declared.ctype.OpaqueKind.{OpaqueKind}
use Rattle.sc_tree.specs.declared.ctype.OpaqueKind.TheVariants as opaque
use Rattle.sc_tree.specs.declared.ctype.Widths.{Widths}
use Rattle.sc_tree.specs.declared.ctype.CType.{CType, CType-F, out-CType}
use Rattle.sc_tree.specs.declared.ctype.CType.TheVariants as ty
use Rattle.sc_tree.specs.declared.ctype.CType.TheFolds.{fold-CType, fold-Signature}
use Rattle.sc_tree.specs.declared.ctype.Signature.{Signature, Signature-F, out-Signature, roll-Signature}
use Rattle.sc_typed.specs.Kinds.{same_kind, promoted, is_signed, kind_bits, word_bytes}

-- Sorts of types. A sort looks at the outermost layer of a type alone.

abbrev pub is_integer_layer : CType-F CType Signature → Bool
is_integer_layer CType-F.Bool = true
is_integer_layer (CType-F.Int k) = true
is_integer_layer _ = false

abbrev pub is_integer : CType → Bool
is_integer t = is_integer_layer (out-CType t)

abbrev pub target_layer : CType-F CType Signature → Option CType
target_layer (CType-F.Ptr t) = Some t
target_layer _ = None

-- what a pointer points to
abbrev pub target : CType → Option CType
target t = target_layer (out-CType t)

abbrev pub is_pointer_layer : CType-F CType Signature → Bool
is_pointer_layer (CType-F.Ptr t) = true
is_pointer_layer _ = false

abbrev pub is_pointer : CType → Bool
is_pointer t = is_pointer_layer (out-CType t)

-- integers and pointers (C11 6.2.5, 21)
abbrev pub is_scalar : CType → Bool
is_scalar t = is_integer t || is_pointer t

abbrev pub is_aggregate_layer : CType-F CType Signature → Bool
is_aggregate_layer (CType-F.Struct n) = true
is_aggregate_layer (CType-F.Union n) = true
is_aggregate_layer _ = false

-- structs and unions
abbrev pub is_aggregate : CType → Bool
is_aggregate t = is_aggregate_layer (out-CType t)

abbrev pub is_function_layer : CType-F CType Signature → Bool
is_function_layer (CType-F.Func s) = true
is_function_layer _ = false

abbrev pub is_function : CType → Bool
is_function t = is_function_layer (out-CType t)

abbrev pub is_array_layer : CType-F CType Signature → Bool
is_array_layer (CType-F.Array t n) = true
is_array_layer _ = false

abbrev pub is_array : CType → Bool
is_array t = is_array_layer (out-CType t)

abbrev pub is_void_layer : CType-F CType Signature → Bool
is_void_layer CType-F.Void = true
is_void_layer _ = false

abbrev pub is_void : CType → Bool
is_void t = is_void_layer (out-CType t)

abbrev pub is_bool_layer : CType-F CType Signature → Bool
is_bool_layer CType-F.Bool = true
is_bool_layer _ = false

abbrev pub is_bool : CType → Bool
is_bool t = is_bool_layer (out-CType t)

abbrev pub is_void_pointer_layer : CType-F CType Signature → Bool
is_void_pointer_layer (CType-F.Ptr t) = is_void t
is_void_pointer_layer _ = false

-- whether it is `void *`
abbrev pub is_void_pointer : CType → Bool
is_void_pointer t = is_void_pointer_layer (out-CType t)

abbrev pub promoted_layer : CType-F CType Signature → IntKind
promoted_layer (CType-F.Int k) = promoted k
promoted_layer _ = kind.Int

-- The kind to which an integer type is promoted (C11 6.3.1.1); `int` of any other type.
abbrev pub promoted_kind : CType → IntKind
promoted_kind t = promoted_layer (out-CType t)

abbrev pub bits_layer : Widths → CType-F CType Signature → ℕ
bits_layer w CType-F.Bool = 1
bits_layer w (CType-F.Int k) = kind_bits w k
bits_layer w (CType-F.Ptr t) = 8 * word_bytes w
bits_layer w _ = 0

-- The bits of a value: 1 of `_Bool`; 0 where the type is neither an integer nor a pointer.
abbrev pub value_bits : Widths → CType → ℕ
value_bits w t = bits_layer w (out-CType t)

abbrev pub sign_layer : CType-F CType Signature → Bool
sign_layer (CType-F.Int k) = is_signed k
sign_layer _ = false

-- whether the values of the type have a sign
abbrev pub has_sign : CType → Bool
has_sign t = sign_layer (out-CType t)

-- Whether two types are one.

abbrev pub same_length : Option ℕ → Option ℕ → Bool
same_length None None = true
same_length (Some m) (Some n) = nat_eq m n
same_length _ _ = false

abbrev pub same_opaque : OpaqueKind → OpaqueKind → Bool
same_opaque opaque.Float opaque.Float = true
same_opaque opaque.Double opaque.Double = true
same_opaque opaque.LongDouble opaque.LongDouble = true
same_opaque opaque.VaList opaque.VaList = true
same_opaque _ _ = false

abbrev pub same_flag : Bool → Bool → Bool
same_flag a b = if a then b else not b

-- each of one list fits the type at its place, and there are as many
abbrev pub each_fits : {A : Type 0} → (A → CType → Bool) → List A → List CType → Bool
each_fits fit [] [] = true
each_fits fit (x ∷ xs) (t ∷ ts) = fit x t && each_fits fit xs ts
each_fits fit _ _ = false

abbrev pub same_params : Option (List (CType → Bool)) → Option (List CType) → Bool
same_params None None = true
same_params (Some ps) (Some ts) = each_fits (λ p t. p t) ps ts
same_params _ _ = false

abbrev pub same_step : CType-F (CType → Bool) (Signature → Bool) → CType-F CType Signature → Bool
same_step CType-F.Void CType-F.Void = true
same_step CType-F.Bool CType-F.Bool = true
same_step (CType-F.Int k) (CType-F.Int l) = same_kind k l
same_step (CType-F.Ptr t) (CType-F.Ptr u) = t u
same_step (CType-F.Array t n) (CType-F.Array u m) = t u && same_length n m
same_step (CType-F.Struct m) (CType-F.Struct n) = nat_eq m n
same_step (CType-F.Union m) (CType-F.Union n) = nat_eq m n
same_step (CType-F.Func s) (CType-F.Func t) = s t
same_step (CType-F.Opaque k) (CType-F.Opaque l) = same_opaque k l
same_step _ _ = false

abbrev pub same_signature_step : Signature-F (CType → Bool) (Signature → Bool) → Signature-F CType Signature → Bool
same_signature_step s t = s.result t.result && (same_params s.params t.params && same_flag s.variadic t.variadic)

abbrev pub same : CType → CType → Bool
same = fold-CType (CType → Bool) (Signature → Bool) (λ f t. same_step f (out-CType t)) (λ f s. same_signature_step f (out-Signature s))

abbrev pub same_signature : Signature → Signature → Bool
same_signature = fold-Signature (CType → Bool) (Signature → Bool) (λ f t. same_step f (out-CType t)) (λ f s. same_signature_step f (out-Signature s))

-- Compatible types (C11 6.2.7, 6.7.6.3): two declarations of one name agree where their types are.

-- what a type says of others: whether the default argument promotions leave it as it is (C11 6.5.2.2), and
-- with which types it agrees
pub record Agreeing : Type 0 where
  pub keeps : Bool
  pub agrees : CType → Bool

abbrev pub lengths_agree : Option ℕ → Option ℕ → Bool
lengths_agree (Some m) (Some n) = nat_eq m n
lengths_agree _ _ = true

abbrev pub keeps_kind : IntKind → Bool
keeps_kind k = same_kind (promoted k) k

abbrev pub keeps_opaque : OpaqueKind → Bool
keeps_opaque opaque.Float = false
keeps_opaque _ = true

-- whether the default argument promotions leave a type as it is
abbrev pub keeps_layer : {A B : Type 0} → CType-F A B → Bool
keeps_layer CType-F.Bool = false
keeps_layer (CType-F.Int k) = keeps_kind k
keeps_layer (CType-F.Opaque k) = keeps_opaque k
keeps_layer _ = true

abbrev pub keeps_itself : CType → Bool
keeps_itself t = keeps_layer (out-CType t)

-- parameters, of which one list is the left one's: empty brackets agree with parameters that keep themselves,
-- without `...`
abbrev pub params_agree : (left : Option (List Agreeing)) (left_variadic : Bool) (right : Option (List CType)) (right_variadic : Bool) → Bool
params_agree None v None u = true
params_agree (Some ps) v None u = not v && list_all (λ p. p.keeps) ps
params_agree None v (Some ts) u = not u && list_all keeps_itself ts
params_agree (Some ps) v (Some ts) u = same_flag v u && each_fits (λ p t. p.agrees t) ps ts

abbrev pub agrees_step : CType-F Agreeing (Signature → Bool) → CType-F CType Signature → Bool
agrees_step CType-F.Void CType-F.Void = true
agrees_step CType-F.Bool CType-F.Bool = true
agrees_step (CType-F.Int k) (CType-F.Int l) = same_kind k l
agrees_step (CType-F.Ptr t) (CType-F.Ptr u) = t.agrees u
agrees_step (CType-F.Array t n) (CType-F.Array u m) = t.agrees u && lengths_agree n m
agrees_step (CType-F.Struct m) (CType-F.Struct n) = nat_eq m n
agrees_step (CType-F.Union m) (CType-F.Union n) = nat_eq m n
agrees_step (CType-F.Func s) (CType-F.Func t) = s t
agrees_step (CType-F.Opaque k) (CType-F.Opaque l) = same_opaque k l
agrees_step _ _ = false

abbrev pub agreeing : CType-F Agreeing (Signature → Bool) → Agreeing
agreeing f = record { keeps = keeps_layer f; agrees = λ t. agrees_step f (out-CType t) }

abbrev pub signatures_agree : Signature-F Agreeing (Signature → Bool) → Signature-F CType Signature → Bool
signatures_agree s t = s.result.agrees t.result && params_agree s.params s.variadic t.params t.variadic

abbrev pub agreement : CType → Agreeing
agreement = fold-CType Agreeing (Signature → Bool) agreeing (λ f s. signatures_agree f (out-Signature s))

-- whether two types are compatible
abbrev pub compatible : CType → CType → Bool
compatible t = (agreement t).agrees

abbrev pub compatible_signature : Signature → Signature → Bool
compatible_signature = fold-Signature Agreeing (Signature → Bool) agreeing (λ f s. signatures_agree f (out-Signature s))

-- The composite type of two compatible types (C11 6.2.7, 3): a length or a list of parameters that one of
-- them has stands in it.
pub record Composing : Type 0 where
  pub itself : CType
  pub with : CType → CType

abbrev pub length_of_both : Option ℕ → Option ℕ → Option ℕ
length_of_both (Some n) m = Some n
length_of_both None m = m

abbrev pub with_each : List Composing → List CType → List CType
with_each (c ∷ cs) (t ∷ ts) = c.with t ∷ with_each cs ts
with_each _ _ = []

abbrev pub params_of_both : Option (List Composing) → Option (List CType) → Option (List CType)
params_of_both None ts = ts
params_of_both (Some cs) None = Some (map (λ c. c.itself) cs)
params_of_both (Some cs) (Some ts) = Some (with_each cs ts)

-- a signature, and what it makes of another one
pub record ComposingSignature : Type 0 where
  pub itself : Signature
  pub with : Signature → Signature

abbrev pub rebuilt : CType-F Composing ComposingSignature → CType
rebuilt CType-F.Void = ty.Void
rebuilt CType-F.Bool = ty.Bool
rebuilt (CType-F.Int k) = ty.Int k
rebuilt (CType-F.Ptr c) = ty.Ptr c.itself
rebuilt (CType-F.Array c n) = ty.Array c.itself n
rebuilt (CType-F.Struct n) = ty.Struct n
rebuilt (CType-F.Union n) = ty.Union n
rebuilt (CType-F.Func s) = ty.Func s.itself
rebuilt (CType-F.Opaque k) = ty.Opaque k

abbrev pub composed : CType-F Composing ComposingSignature → CType-F CType Signature → CType
composed (CType-F.Ptr c) (CType-F.Ptr t) = ty.Ptr (c.with t)
composed (CType-F.Array c n) (CType-F.Array t m) = ty.Array (c.with t) (length_of_both n m)
composed (CType-F.Func s) (CType-F.Func t) = ty.Func (s.with t)
composed f _ = rebuilt f

abbrev pub composing : CType-F Composing ComposingSignature → Composing
composing f = record { itself = rebuilt f; with = λ t. composed f (out-CType t) }

abbrev pub signature_itself : Signature-F Composing ComposingSignature → Signature
signature_itself s = roll-Signature (record {
  result = s.result.itself;
  params = params_of_both s.params None;
  variadic = s.variadic;
})

abbrev pub signature_with : Signature-F Composing ComposingSignature → Signature-F CType Signature → Signature
signature_with s t = roll-Signature (record {
  result = s.result.with t.result;
  params = params_of_both s.params t.params;
  variadic = s.variadic || t.variadic;
})

abbrev pub composing_signature : Signature-F Composing ComposingSignature → ComposingSignature
composing_signature s = record { itself = signature_itself s; with = λ t. signature_with s (out-Signature t) }

abbrev pub composition : CType → Composing
composition = fold-CType Composing ComposingSignature composing composing_signature

abbrev pub signature_composition : Signature → ComposingSignature
signature_composition = fold-Signature Composing ComposingSignature composing composing_signature

abbrev pub composite : CType → CType → CType
composite t = (composition t).with
