-- Types that typing finds to be one are one type to runs.
use Rattle.std.proofs.Common.{◌≡◌, ℕ, Bool, true, false, not, ◌&&◌, List, [], ◌∷◌, map, refl, sym, ap, subst, ◌∙◌, nat_eq, eqb-true}
use Rattle.std.proofs.lemmas.Bool.{true≢false, and_parts}
use Rattle.std.specs.Prelude.{Option, Some, None, if◌then◌else◌}
use Rattle.sc_tree.specs.declared.ctype.CType.{CType, CType-F, out-CType, roll-CType}
use Rattle.sc_tree.specs.declared.ctype.CType.TheFolds as folds
use Rattle.sc_tree.specs.declared.ctype.Signature.{Signature, Signature-F, out-Signature, roll-Signature}
use Rattle.sc_tree.specs.declared.ctype.IntKind.{IntKind}
use Rattle.sc_tree.specs.declared.ctype.IntKind.TheVariants as kind
use Rattle.sc_tree.specs.declared.ctype.OpaqueKind.{OpaqueKind}
use Rattle.sc_tree.specs.declared.ctype.OpaqueKind.TheVariants as opaque
use Rattle.sc_typed.specs.Kinds.{same_kind}
use Rattle.sc_typed.specs.Types.{same, same_signature, same_step, same_signature_step, same_length, same_opaque, same_flag, same_params, each_fits}
use Rattle.sc_world.specs.Tree.{Ty, Void, Bool', Int, Ptr, Array, Struct, Union, Func, Opaque}
use Rattle.sc_world.specs.View.{type, type_step, signature_step, func}
use Rattle.typed_laws.proofs.Types.{of_signature, seen, type_out, type_roll, signature_out}

never : {A : Type 0} → false ≡ true → A
never h = absurd (true≢false (sym h))

kinds : (k l : IntKind) → same_kind k l ≡ true → k ≡ l
kinds kind.Char kind.Char h = refl
kinds kind.SChar kind.SChar h = refl
kinds kind.UChar kind.UChar h = refl
kinds kind.Short kind.Short h = refl
kinds kind.UShort kind.UShort h = refl
kinds kind.Int kind.Int h = refl
kinds kind.UInt kind.UInt h = refl
kinds kind.Long kind.Long h = refl
kinds kind.ULong kind.ULong h = refl
kinds kind.LongLong kind.LongLong h = refl
kinds kind.ULongLong kind.ULongLong h = refl
kinds _ _ h = never h

opaques : (k l : OpaqueKind) → same_opaque k l ≡ true → k ≡ l
opaques opaque.Float opaque.Float h = refl
opaques opaque.Double opaque.Double h = refl
opaques opaque.LongDouble opaque.LongDouble h = refl
opaques opaque.VaList opaque.VaList h = refl
opaques _ _ h = never h

lengths : (n m : Option ℕ) → same_length n m ≡ true → n ≡ m
lengths None None h = refl
lengths (Some n) (Some m) h = ap Some (eqb-true n m h)
lengths None (Some m) h = never h
lengths (Some n) None h = never h

flags : (v w : Bool) → same_flag v w ≡ true → v ≡ w
flags true w h = sym h
flags false false h = refl
flags false true h = never h

abbrev P : CType → Type 0
P t = (u : CType) → same t u ≡ true → type t ≡ type u

abbrev Q : Signature → Type 0
Q x = (y : Signature) → same_signature x y ≡ true → of_signature x ≡ of_signature y

abbrev ST : Type 0
ST = (t : CType) × P t

abbrev SG : Type 0
SG = (x : Signature) × Q x

abbrev bare : CType-F ST SG → CType-F CType Signature
bare y = folds.map-CType ST SG CType Signature (λ e. e.0) (λ e. e.0) y

abbrev bare_signature : Signature-F ST SG → Signature-F CType Signature
bare_signature y = folds.map-Signature ST SG CType Signature (λ e. e.0) (λ e. e.0) y

abbrev tested : CType-F CType Signature → CType-F (CType → Bool) (Signature → Bool)
tested f = folds.map-CType CType Signature (CType → Bool) (Signature → Bool) same same_signature f

abbrev tested_signature : Signature-F CType Signature → Signature-F (CType → Bool) (Signature → Bool)
tested_signature f = folds.map-Signature CType Signature (CType → Bool) (Signature → Bool) same same_signature f

abbrev seen_signature : Signature-F CType Signature → Ty
seen_signature f = signature_step (folds.map-Signature CType Signature Ty Ty type of_signature f)

same_layer : (y : CType-F ST SG) (z : CType-F CType Signature) → same_step (tested (bare y)) z ≡ true → seen (bare y) ≡ seen z
same_layer CType-F.Void CType-F.Void h = refl
same_layer CType-F.Bool CType-F.Bool h = refl
same_layer (CType-F.Int k) (CType-F.Int l) h = ap Int (kinds k l h)
same_layer (CType-F.Ptr t) (CType-F.Ptr u) h = ap Ptr (t.1 u h)
same_layer (CType-F.Array t n) (CType-F.Array u m) h =
    let both = and_parts (same t.0 u) (same_length n m) h in
    ap (λ v. Array v n) (t.1 u both.0) ∙ ap (Array (type u)) (lengths n m both.1)
same_layer (CType-F.Struct m) (CType-F.Struct n) h = ap Struct (eqb-true m n h)
same_layer (CType-F.Union m) (CType-F.Union n) h = ap Union (eqb-true m n h)
same_layer (CType-F.Func x) (CType-F.Func y) h = x.1 y h
same_layer (CType-F.Opaque k) (CType-F.Opaque l) h = ap Opaque (opaques k l h)
same_layer _ _ h = never h

each_same : (ps : List ST) (us : List CType) → each_fits (λ (p : CType → Bool) (t : CType). p t) (map same (map (λ (e : ST). e.0) ps)) us ≡ true → map type (map (λ (e : ST). e.0) ps) ≡ map type us
each_same [] [] h = refl
each_same (p ∷ ps) (u ∷ us) h =
    let both = and_parts (same p.0 u) (each_fits (λ (p : CType → Bool) (t : CType). p t) (map same (map (λ (e : ST). e.0) ps)) us) h in
    ap (λ v. v ∷ map type (map (λ (e : ST). e.0) ps)) (p.1 u both.0) ∙ ap (λ vs. type u ∷ vs) (each_same ps us both.1)
each_same [] (u ∷ us) h = never h
each_same (p ∷ ps) [] h = never h

same_fields : (r : ST) (ps : Option (List ST)) (v : Bool) (u : CType) (us : Option (List CType)) (w : Bool)
    → same_signature_step (tested_signature (bare_signature (record { result = r; params = ps; variadic = v }))) (record { result = u; params = us; variadic = w }) ≡ true
    → seen_signature (bare_signature (record { result = r; params = ps; variadic = v })) ≡ seen_signature (record { result = u; params = us; variadic = w })
same_fields r None v u None w h =
    let both = and_parts (same r.0 u) (same_flag v w) h in
    ap (λ t. func t None v) (r.1 u both.0) ∙ ap (func (type u) None) (flags v w both.1)
same_fields r (Some ps) v u (Some us) w h =
    let all = and_parts (same r.0 u) (each_fits (λ (p : CType → Bool) (t : CType). p t) (map same (map (λ (e : ST). e.0) ps)) us && same_flag v w) h in
    let both = and_parts (each_fits (λ (p : CType → Bool) (t : CType). p t) (map same (map (λ (e : ST). e.0) ps)) us) (same_flag v w) all.1 in
    ap (λ t. func t (Some (map type (map (λ (e : ST). e.0) ps))) v) (r.1 u all.0)
    ∙ (ap (λ ts. func (type u) (Some ts) v) (each_same ps us both.0) ∙ ap (func (type u) (Some (map type us))) (flags v w both.1))
same_fields r None v u (Some us) w h = never (and_parts (same r.0 u) false h).1
same_fields r (Some ps) v u None w h = never (and_parts (same r.0 u) false h).1

step : (x : CType-F CType Signature) (y : CType-F ST SG) → bare y ≡ x → P (roll-CType x)
step x y is =
    subst (λ z. P (roll-CType z)) is (λ u h.
    type_roll (bare y)
    ∙ (same_layer y (out-CType u) (ap (λ g. g u) (sym (folds.fold-roll-CType (CType → Bool) (Signature → Bool) (λ f t. same_step f (out-CType t)) (λ f s. same_signature_step f (out-Signature s)) (bare y))) ∙ h)
    ∙ sym (type_out u)))

step_signature : (x : Signature-F CType Signature) (y : Signature-F ST SG) → bare_signature y ≡ x → Q (roll-Signature x)
step_signature x y is =
    subst (λ z. Q (roll-Signature z)) is (λ u h.
    folds.fold-roll-Signature Ty Ty type_step signature_step (bare_signature y)
    ∙ (same_fields y.result y.params y.variadic (out-Signature u).result (out-Signature u).params (out-Signature u).variadic (ap (λ g. g u) (sym (folds.fold-roll-Signature (CType → Bool) (Signature → Bool) (λ f t. same_step f (out-CType t)) (λ f s. same_signature_step f (out-Signature s)) (bare_signature y))) ∙ h)
    ∙ sym (signature_out u)))

pub same_type_seen : (t u : CType) → same t u ≡ true → type t ≡ type u
same_type_seen = folds.ind-CType P Q step step_signature
