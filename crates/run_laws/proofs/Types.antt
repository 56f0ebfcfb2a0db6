-- What follows of types alone: scalar types, conversions, and the kinds of values.
use Rattle.std.proofs.Common.{◌≡◌, ℕ, zero, suc, ◌+◌, ◌<◌, Bool, true, false, ◌&&◌, ◌||◌, List, [], ◌∷◌, length, refl, sym, ap, subst, ◌∙◌, inl, inr, arith}
use Rattle.std.proofs.lemmas.Bool.{true≢false}
use Rattle.std.specs.Prelude.{Option, Some, None, slice_index_or, if◌then◌else◌}
use Rattle.sc_tree.specs.declared.ctype.IntKind.{IntKind}
use Rattle.sc_tree.specs.declared.ctype.IntKind.TheVariants as kind
use Rattle.sc_typed.specs.Kinds.{same_kind}
use Rattle.run_store.specs.Concrete.{Cell, Number, Pointer, Nothing, Kind, Numbers, Pointers, NoCell, kind_of}
use Rattle.sc_world.specs.Tree.{Ty, Void, Bool', Int, Ptr, Array, Struct, Union, Func, Opaque, is_integer, is_pointer, is_array, is_void, int_bits, promoted_type}
use Rattle.sc_world.specs.Source.{Source}
use Rattle.sc_world.specs.Layout.{Layout, Location, location, type_is, has_type, nowhere}
use Rattle.sc_world.specs.World.{Env, pointer_to, kind_of_type, target_or_null}
use Rattle.sc_world.specs.Eval.{place_of, convert}
use Rattle.run_laws.specs.Fits.{value_kind, IsValueOf, may_be_stub, StandsAt, IsPlaceOf, is_scalar, is_function, converts_to}

false-true : {A : Type 0} → false ≡ true → A
false-true h = absurd (true≢false (sym h))

pub or_false : (a b : Bool) → a || b ≡ false → (a ≡ false) × (b ≡ false)
or_false true b h = absurd (true≢false h)
or_false false b h = (refl, h)

pub or_right : (a b : Bool) → a || b ≡ true → a ≡ false → b ≡ true
or_right true b h e = absurd (true≢false e)
or_right false b h e = h

-- types

pub integer_no_void : (t : Ty) → is_integer t ≡ true → is_void t ≡ false
integer_no_void Void h = false-true h
integer_no_void _ h = refl

pub pointer_no_void : (t : Ty) → is_pointer t ≡ true → is_void t ≡ false
pointer_no_void Void h = false-true h
pointer_no_void _ h = refl

pub pointer_no_integer : (t : Ty) → is_pointer t ≡ true → is_integer t ≡ false
pointer_no_integer Bool' h = false-true h
pointer_no_integer (Int k) h = false-true h
pointer_no_integer _ h = refl

pub stub_no_integer : (t : Ty) → may_be_stub t ≡ true → is_integer t ≡ false
stub_no_integer Bool' h = false-true h
stub_no_integer (Int k) h = false-true h
stub_no_integer _ h = refl

pub scalar_no_stub : (t : Ty) → is_scalar t ≡ true → may_be_stub t ≡ true → ⊥
scalar_no_stub (Array t n) h i = false-true h
scalar_no_stub (Func t known ts variadic) h i = false-true h
scalar_no_stub _ h i = false-true i

pub integer_scalar : (t : Ty) → is_integer t ≡ true → is_scalar t ≡ true
integer_scalar t h = ap (λ b. b || is_pointer t) h

same_kinds : (k l : IntKind) → same_kind k l ≡ true → k ≡ l
same_kinds kind.Char kind.Char h = refl
same_kinds kind.SChar kind.SChar h = refl
same_kinds kind.UChar kind.UChar h = refl
same_kinds kind.Short kind.Short h = refl
same_kinds kind.UShort kind.UShort h = refl
same_kinds kind.Int kind.Int h = refl
same_kinds kind.UInt kind.UInt h = refl
same_kinds kind.Long kind.Long h = refl
same_kinds kind.ULong kind.ULong h = refl
same_kinds kind.LongLong kind.LongLong h = refl
same_kinds kind.ULongLong kind.ULongLong h = refl
same_kinds _ _ h = false-true h

-- a cell of a scalar type is of the kind that its values have
pub cell_kind : (s : Source) (o : Option Ty) (t : Ty) → type_is o t ≡ true → is_scalar t ≡ true → kind_of_type s o ≡ value_kind s t
cell_kind s None t h i = false-true h
cell_kind s (Some Bool') Bool' h i = refl
cell_kind s (Some (Int k)) (Int l) h i = ap (λ m. Numbers (int_bits s.widths (Int m))) (same_kinds k l h)
cell_kind s (Some (Ptr u)) (Ptr t) h i = refl
cell_kind s (Some u) Void h i = false-true i
cell_kind s (Some u) (Array t n) h i = false-true i
cell_kind s (Some u) (Struct n) h i = false-true i
cell_kind s (Some u) (Union n) h i = false-true i
cell_kind s (Some u) (Func t known ts variadic) h i = false-true i
cell_kind s (Some u) (Opaque k) h i = false-true i
cell_kind s (Some _) _ h i = false-true h

pub own_kind_of : (s : Source) (t : Ty) → is_scalar t ≡ true → kind_of_type s (Some t) ≡ value_kind s t
own_kind_of s Bool' i = refl
own_kind_of s (Int k) i = refl
own_kind_of s (Ptr t) i = refl
own_kind_of s _ i = false-true i

there_in : (ls : List Location) (at : ℕ) (t : Ty) → has_type (slice_index_or ls at nowhere) t ≡ true → at < length ls
there_in [] at t h = false-true h
there_in (l ∷ ls) zero t h = omega arith
there_in (l ∷ ls) (suc at) t h = omega (arith, there_in ls at t h)

pub typed_there : (p : Layout) (at : ℕ) (t : Ty) → has_type (location p at) t ≡ true → at < length p.locations
typed_there p at t h = there_in p.locations at t h

pub scalar_typed : (p : Layout) (t : Ty) (at : ℕ) → is_scalar t ≡ true → StandsAt p t at → has_type (location p at) t ≡ true
scalar_typed p t at h (inl i) = i
scalar_typed p t at h (inr i) = absurd (scalar_no_stub t h i.1)

-- values

pub value_number : (s : Source) (t : Ty) → is_integer t ≡ true → (n : ℕ) → IsValueOf s t (Number (int_bits s.widths t) n)
value_number s t e n = record { kind = λ _. sym (ap (λ b. if b then Numbers (int_bits s.widths t) else Pointers) e) }

pub value_pointer : (s : Source) (t : Ty) → is_integer t ≡ false → (q : ℕ) → IsValueOf s t (Pointer q)
value_pointer s t e q = record { kind = λ _. sym (ap (λ b. if b then Numbers (int_bits s.widths t) else Pointers) e) }

pub value_void : (s : Source) (t : Ty) → is_void t ≡ true → (c : Cell) → IsValueOf s t c
value_void s t e c = record { kind = λ h. absurd (true≢false (sym e ∙ h)) }

pub value_target : (s : Source) (t : Ty) → is_integer t ≡ false → (o : Option ℕ) → IsValueOf s t (target_or_null o)
value_target s t e None = value_pointer s t e 0
value_target s t e (Some at) = value_pointer s t e (at + 1)

pub place_of_pointer : (p : Layout) (t : Ty) (at : ℕ) → StandsAt p t at → IsPlaceOf p t (pointer_to at)
place_of_pointer p t at h =
    let same : at ≡ place_of (pointer_to at) = omega arith in
    record { pointer = ap pointer_to same; stands = subst (StandsAt p t) same h }

pub place_value : (s : Source) (p : Layout) (t : Ty) (c : Cell) → is_integer t ≡ false → IsPlaceOf p t c → IsValueOf s t c
place_value s p t c e h = subst (IsValueOf s t) (sym h.pointer) (value_pointer s t e (place_of c + 1))

-- kinds of values

is_numbers : Kind → Bool
is_numbers (Numbers w) = true
is_numbers _ = false

abbrev is_none : Kind → Bool
is_none NoCell = true
is_none _ = false

none_of : (b : Bool) (w : ℕ) → NoCell ≡ (if b then Numbers w else Pointers) → ⊥
none_of true w e = true≢false (ap is_none e)
none_of false w e = true≢false (ap is_none e)

pub no_nothing : (s : Source) (t : Ty) → is_void t ≡ false → IsValueOf s t Nothing → ⊥
no_nothing s t e h = none_of (is_integer t) (int_bits s.widths t) (h.kind e)

number_kind : (s : Source) (t : Ty) (c : Cell) → is_integer t ≡ true → IsValueOf s t c → kind_of c ≡ Numbers (int_bits s.widths t)
number_kind s t c e h =
    h.kind (integer_no_void t e) ∙ ap (λ b. if b then Numbers (int_bits s.widths t) else Pointers) e

pointer_kind : (s : Source) (t : Ty) (c : Cell) → is_pointer t ≡ true → IsValueOf s t c → kind_of c ≡ Pointers
pointer_kind s t c e h =
    h.kind (pointer_no_void t e) ∙ ap (λ b. if b then Numbers (int_bits s.widths t) else Pointers) (pointer_no_integer t e)

pub no_pointer : (s : Source) (t : Ty) (q : ℕ) → is_integer t ≡ true → IsValueOf s t (Pointer q) → ⊥
unfolding is_numbers
no_pointer s t q e h = true≢false (sym (ap is_numbers (number_kind s t (Pointer q) e h)))

-- two numbers or two pointers
abbrev pub alike : Kind → Kind → Bool
alike (Numbers w) (Numbers v) = true
alike Pointers Pointers = true
alike _ _ = false

pub numbers_alike : (s : Source) (t u : Ty) (c d : Cell) → is_integer t ≡ true → is_integer u ≡ true → IsValueOf s t c → IsValueOf s u d
    → alike (kind_of c) (kind_of d) ≡ true
numbers_alike s t u c d e f h i =
    ap (λ k. alike k (kind_of d)) (number_kind s t c e h) ∙ ap (alike (Numbers (int_bits s.widths t))) (number_kind s u d f i)

pub pointers_alike : (s : Source) (t u : Ty) (c d : Cell) → is_pointer t ≡ true → is_pointer u ≡ true → IsValueOf s t c → IsValueOf s u d
    → alike (kind_of c) (kind_of d) ≡ true
pointers_alike s t u c d e f h i =
    ap (λ k. alike k (kind_of d)) (pointer_kind s t c e h) ∙ ap (alike Pointers) (pointer_kind s u d f i)

-- conversions

converts_never : (a b c : Bool) → (if a then false else (if b then false else (c && false))) ≡ true → ⊥
converts_never true b c h = false-true h
converts_never false true c h = false-true h
converts_never false false true h = false-true h
converts_never false false false h = false-true h

integer_must : (a b c : Bool) → (if a then false else (if b then true else (c && false))) ≡ true → b ≡ true
integer_must true b c h = false-true h
integer_must false true c h = refl
integer_must false false true h = false-true h
integer_must false false false h = false-true h

from_no_void : (u t : Ty) → converts_to u t ≡ true → is_void t ≡ false → is_void u ≡ false
from_no_void Void t h e = absurd (true≢false (sym (or_right (is_void t) false h e)))
from_no_void _ t h e = refl

converted_kind : (s : Source) (env : Env) (u t : Ty) (c : Cell) → env.source ≡ s → is_void t ≡ false → converts_to u t ≡ true
    → IsValueOf s u c → kind_of (convert env u t c) ≡ value_kind s t
converted_kind s env u Bool' (Number w n) es e h v = refl
converted_kind s env u (Int k) (Number w n) es e h v = ap (λ z. Numbers (int_bits z.widths (Int k))) es
converted_kind s env u (Ptr t) (Number w n) es e h v = refl
converted_kind s env u Bool' (Pointer q) es e h v = refl
converted_kind s env u (Int k) (Pointer q) es e h v =
    absurd (no_pointer s u q (integer_must (is_array u) (is_integer u) (is_pointer u || is_function u) h) v)
converted_kind s env u (Ptr t) (Pointer q) es e h v = refl
converted_kind s env u t Nothing es e h v = absurd (no_nothing s u (from_no_void u t h e) v)
converted_kind s env u Void c es e h v = absurd (true≢false e)
converted_kind s env u (Array t n) c es e h v =
    absurd (converts_never (is_array u) (is_integer u) (is_pointer u || is_function u) h)
converted_kind s env u (Struct n) c es e h v =
    absurd (converts_never (is_array u) (is_integer u) (is_pointer u || is_function u) h)
converted_kind s env u (Union n) c es e h v =
    absurd (converts_never (is_array u) (is_integer u) (is_pointer u || is_function u) h)
converted_kind s env u (Func t known ts variadic) c es e h v =
    absurd (converts_never (is_array u) (is_integer u) (is_pointer u || is_function u) h)
converted_kind s env u (Opaque k) c es e h v =
    absurd (converts_never (is_array u) (is_integer u) (is_pointer u || is_function u) h)

pub converted_value : (s : Source) (env : Env) (u t : Ty) (c : Cell) → env.source ≡ s → converts_to u t ≡ true → IsValueOf s u c
    → IsValueOf s t (convert env u t c)
converted_value s env u t c es h v = record { kind = λ e. converted_kind s env u t c es e h v }

pub array_pointer : (b : Bool) (t : Ty) (rest : Bool) → b ≡ true → is_void t || (if b then is_pointer t else rest) ≡ true
    → is_void t ≡ false → is_integer t ≡ false
array_pointer true t rest e h i = pointer_no_integer t (or_right (is_void t) (is_pointer t) h i)
array_pointer false t rest e h i = absurd (true≢false (sym e))

pub promoted_integer : (t : Ty) → is_integer (promoted_type t) ≡ true
promoted_integer (Int k) = refl
promoted_integer _ = refl

pub to_promoted : (t : Ty) → is_integer t ≡ true → converts_to t (promoted_type t) ≡ true
to_promoted Bool' h = refl
to_promoted (Int k) h = refl
to_promoted _ h = false-true h

pub from_promoted : (t : Ty) → is_integer t ≡ true → converts_to (promoted_type t) t ≡ true
from_promoted Bool' h = refl
from_promoted (Int k) h = refl
from_promoted _ h = false-true h
