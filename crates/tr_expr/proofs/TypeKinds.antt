-- The kinds and the widths of the values of types.
use Rattle.std.proofs.Common.{◌≡◌, ℕ, ◌<◌, ◌≤◌, Bool, true, false, ◌&&◌, ◌||◌, Some, refl, sym, ◌∙◌, arith}
use Rattle.std.proofs.lemmas.Bool.{true≢false}
use Rattle.sc_tree.specs.declared.ctype.IntKind.{IntKind}
use Rattle.sc_tree.specs.declared.ctype.IntKind.TheVariants as kind
use Rattle.sc_tree.specs.declared.ctype.Widths.{Widths}
use Rattle.sc_tree.specs.declared.ctype.Widths.TheVariants as widths
use Rattle.sc_typed.specs.Kinds.{kind_bytes}
use Rattle.run_store.specs.Concrete.{Numbers, Pointers, NoCell}
use Rattle.sc_world.specs.Tree.{Ty, Bool', Int, Ptr, is_integer, is_pointer, is_bool, int_bits}
use Rattle.sc_world.specs.Source.{Source}
use Rattle.sc_world.specs.World.{kind_of_type}
use Rattle.tr_expr.specs.Plain.{converts}

false-true : {A : Type 0} → false ≡ true → A
false-true e = absurd (true≢false (sym e))

pub integer_kind : (s : Source) (t : Ty) → is_integer t ≡ true → kind_of_type s (Some t) ≡ Numbers (int_bits s.widths t)
integer_kind s Bool' e = refl
integer_kind s (Int k) e = refl
integer_kind s _ e = false-true e

pub pointer_kind : (s : Source) (t : Ty) → is_pointer t ≡ true → kind_of_type s (Some t) ≡ Pointers
pointer_kind s (Ptr t) e = refl
pointer_kind s _ e = false-true e

pub bool_kind : (s : Source) (t : Ty) → is_bool t ≡ true → kind_of_type s (Some t) ≡ Numbers 1
bool_kind s Bool' e = refl
bool_kind s _ e = false-true e

-- what has numbers for its values is an integer type, and they have its width
pub numbers_integer : (s : Source) (t : Ty) (n : ℕ) → kind_of_type s (Some t) ≡ Numbers n → is_integer t ≡ true
numbers_integer s Bool' n e = refl
numbers_integer s (Int k) n e = refl
numbers_integer s _ n e = absurd (cc)

numbers_same : (m n : ℕ) → Numbers m ≡ Numbers n → m ≡ n
numbers_same m n e = cc

pub numbers_width : (s : Source) (t : Ty) (n : ℕ) → kind_of_type s (Some t) ≡ Numbers n → int_bits s.widths t ≡ n
numbers_width s t n e = numbers_same (int_bits s.widths t) n (sym (integer_kind s t (numbers_integer s t n e)) ∙ e)

pub pointers_pointer : (s : Source) (t : Ty) → kind_of_type s (Some t) ≡ Pointers → is_pointer t ≡ true
pointers_pointer s (Ptr t) e = refl
pointers_pointer s _ e = absurd (cc)

-- what is converted has a value
pub converts_some : (s : Source) (u t : Ty) → converts u t ≡ true → kind_of_type s (Some u) ≡ NoCell → ⊥
converts_some s Bool' t e none = absurd (cc)
converts_some s (Int k) t e none = absurd (cc)
converts_some s (Ptr u) t e none = absurd (cc)
converts_some s _ t e none = false-true e

integer_no_pointer : (t : Ty) → is_integer t ≡ true → is_pointer t ≡ false
integer_no_pointer (Ptr t) e = false-true e
integer_no_pointer _ e = refl

pointer_no_integer : (t : Ty) → is_pointer t ≡ true → is_integer t ≡ false
pointer_no_integer Bool' e = false-true e
pointer_no_integer (Int k) e = false-true e
pointer_no_integer _ e = refl

-- i and p: what is converted is an integer, a pointer; j, q and b: what it becomes is an integer, a pointer, a `_Bool`
integer_becomes : (i p j q b : Bool) → i ≡ true → p ≡ false → j ≡ false → (i && (j || q)) || (p && (q || b)) ≡ true → q ≡ true
integer_becomes i p j true b is off other e = refl
integer_becomes false p j false b is off other e = false-true is
integer_becomes true true j false b is off other e = absurd (true≢false off)
integer_becomes true false true false b is off other e = absurd (true≢false other)
integer_becomes true false false false b is off other e = false-true e

pointer_becomes : (i p j q b : Bool) → i ≡ false → p ≡ true → b ≡ false → (i && (j || q)) || (p && (q || b)) ≡ true → q ≡ true
pointer_becomes i p j true b off is other e = refl
pointer_becomes true p j false b off is other e = absurd (true≢false off)
pointer_becomes false false j false b off is other e = false-true is
pointer_becomes false true j false true off is other e = absurd (true≢false other)
pointer_becomes false true j false false off is other e = false-true e

-- what an integer becomes that is no integer is a pointer, and what a pointer becomes that is no `_Bool` is one
pub to_pointer : (u t : Ty) → is_integer u ≡ true → is_integer t ≡ false → converts u t ≡ true → is_pointer t ≡ true
to_pointer u t is other e =
    integer_becomes (is_integer u) (is_pointer u) (is_integer t) (is_pointer t) (is_bool t) is (integer_no_pointer u is) other e

pub stays_pointer : (u t : Ty) → is_pointer u ≡ true → is_bool t ≡ false → converts u t ≡ true → is_pointer t ≡ true
stays_pointer u t is other e =
    pointer_becomes (is_integer u) (is_pointer u) (is_integer t) (is_pointer t) (is_bool t) (pointer_no_integer u is) is other e

-- An integer has 1 to 64 bits.

bytes_some : (w : Widths) (k : IntKind) → 0 < kind_bytes w k
bytes_some widths.Ilp32 kind.Long = omega arith
bytes_some widths.Lp64 kind.Long = omega arith
bytes_some widths.Ilp32 kind.ULong = omega arith
bytes_some widths.Lp64 kind.ULong = omega arith
bytes_some w kind.Char = omega arith
bytes_some w kind.SChar = omega arith
bytes_some w kind.UChar = omega arith
bytes_some w kind.Short = omega arith
bytes_some w kind.UShort = omega arith
bytes_some w kind.Int = omega arith
bytes_some w kind.UInt = omega arith
bytes_some w kind.LongLong = omega arith
bytes_some w kind.ULongLong = omega arith

bytes_few : (w : Widths) (k : IntKind) → kind_bytes w k ≤ 8
bytes_few widths.Ilp32 kind.Long = omega arith
bytes_few widths.Lp64 kind.Long = omega arith
bytes_few widths.Ilp32 kind.ULong = omega arith
bytes_few widths.Lp64 kind.ULong = omega arith
bytes_few w kind.Char = omega arith
bytes_few w kind.SChar = omega arith
bytes_few w kind.UChar = omega arith
bytes_few w kind.Short = omega arith
bytes_few w kind.UShort = omega arith
bytes_few w kind.Int = omega arith
bytes_few w kind.UInt = omega arith
bytes_few w kind.LongLong = omega arith
bytes_few w kind.ULongLong = omega arith

pub bits_some : (w : Widths) (t : Ty) → is_integer t ≡ true → 0 < int_bits w t
bits_some w Bool' e = omega arith
bits_some w (Int k) e = omega (arith, bytes_some w k)
bits_some w _ e = false-true e

pub bits_few : (w : Widths) (t : Ty) → int_bits w t ≤ 64
bits_few w Bool' = omega arith
bits_few w (Int k) = omega (arith, bytes_few w k)
bits_few w _ = omega arith
