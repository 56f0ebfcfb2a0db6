-- Types that runs take for one are one.
use Rattle.std.proofs.Common.{◌≡◌, ℕ, Bool, true, false, ◌&&◌, refl, sym, ap, ◌∙◌, eqb-true}
use Rattle.std.proofs.lemmas.Bool.{true≢false, and_parts}
use Rattle.std.specs.Prelude.{Option, Some, None}
use Rattle.sc_tree.specs.declared.ctype.IntKind.{IntKind}
use Rattle.sc_tree.specs.declared.ctype.IntKind.TheVariants as kind
use Rattle.sc_tree.specs.declared.ctype.OpaqueKind.{OpaqueKind}
use Rattle.sc_tree.specs.declared.ctype.OpaqueKind.TheVariants as opaque
use Rattle.sc_typed.specs.Kinds.{same_kind}
use Rattle.sc_typed.specs.Types.{same_length, same_opaque, same_flag}
use Rattle.sc_world.specs.Tree.{Ty, Void, Bool', Int, Ptr, Array, Struct, Union, Func, Opaque, Tys, NoTypes, Types, same_type, same_types}

never : {A : Type 0} → false ≡ true → A
never h = absurd (true≢false (sym h))

kinds : (k l : IntKind) → same_kind k l ≡ true → k ≡ l
kinds kind.Char kind.Char h = refl
kinds kind.SChar kind.SChar h = refl
kinds kind.UChar kind.UChar h = refl
kinds kind.Short kind.Short h = refl
kinds kind.UShort kind.UShort h = refl
kinds kind.Int kind.Int h = refl
kinds kind.UInt kind.UInt h = refl
kinds kind.Long kind.Long h = refl
kinds kind.ULong kind.ULong h = refl
kinds kind.LongLong kind.LongLong h = refl
kinds kind.ULongLong kind.ULongLong h = refl
kinds _ _ h = never h

opaques : (k l : OpaqueKind) → same_opaque k l ≡ true → k ≡ l
opaques opaque.Float opaque.Float h = refl
opaques opaque.Double opaque.Double h = refl
opaques opaque.LongDouble opaque.LongDouble h = refl
opaques opaque.VaList opaque.VaList h = refl
opaques _ _ h = never h

lengths : (n m : Option ℕ) → same_length n m ≡ true → n ≡ m
lengths None None h = refl
lengths (Some n) (Some m) h = ap Some (eqb-true n m h)
lengths None (Some m) h = never h
lengths (Some n) None h = never h

flags : (v w : Bool) → same_flag v w ≡ true → v ≡ w
flags true w h = sym h
flags false false h = refl
flags false true h = never h

mutual
  pub types_one : (t u : Ty) → same_type t u ≡ true → t ≡ u
  types_one Void Void h = refl
  types_one Bool' Bool' h = refl
  types_one (Int k) (Int l) h = ap Int (kinds k l h)
  types_one (Ptr t) (Ptr u) h = ap Ptr (types_one t u h)
  types_one (Array t n) (Array u m) h =
      let both = and_parts (same_type t u) (same_length n m) h in
      ap (λ v. Array v n) (types_one t u both.0) ∙ ap (Array u) (lengths n m both.1)
  types_one (Struct m) (Struct n) h = ap Struct (eqb-true m n h)
  types_one (Union m) (Union n) h = ap Union (eqb-true m n h)
  types_one (Func t k ts v) (Func u l us w) h =
      let all = and_parts (same_type t u) (same_flag k l && (same_types ts us && same_flag v w)) h in
      let some = and_parts (same_flag k l) (same_types ts us && same_flag v w) all.1 in
      let both = and_parts (same_types ts us) (same_flag v w) some.1 in
      ap (λ x. Func x k ts v) (types_one t u all.0)
      ∙ (ap (λ x. Func u x ts v) (flags k l some.0)
      ∙ (ap (λ x. Func u l x v) (lists_one ts us both.0) ∙ ap (Func u l us) (flags v w both.1)))
  types_one (Opaque k) (Opaque l) h = ap Opaque (opaques k l h)
  types_one _ _ h = never h

  lists_one : (ts us : Tys) → same_types ts us ≡ true → ts ≡ us
  lists_one NoTypes NoTypes h = refl
  lists_one (Types t ts) (Types u us) h =
      let both = and_parts (same_type t u) (same_types ts us) h in
      ap (λ v. Types v ts) (types_one t u both.0) ∙ ap (Types u) (lists_one ts us both.1)
  lists_one NoTypes (Types u us) h = never h
  lists_one (Types t ts) NoTypes h = never h
