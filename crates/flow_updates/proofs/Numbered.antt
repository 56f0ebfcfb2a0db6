-- What was kept of operands, and a type for a number by its width.
use Rattle.std.proofs.Common.{◌≡◌, ℕ, ◌<◌, ◌≤◌, nat_eq, Bool, true, false, if◌then◌else◌, Option, Some, None, List, [], ◌∷◌, length, slice_get, slice_index_or, zero, suc, max, refl, sym, ◌∙◌, ap, subst, arith}
use Rattle.bit_words.specs.declared.Word.{Word as Words}
use Rattle.gl_sets.specs.declared.sets.Set.{Set as Sets}
use Rattle.gl_sets.specs.Guards.{guards_top}
use Rattle.gl_store.specs.declared.values.Val.{Val}
use Rattle.gl_store.specs.declared.values.Val.TheVariants.{Word, Set, Unit as Empty}
use Rattle.gl_store.specs.Meets.{val_kind, val_top}
use Rattle.run_store.specs.Concrete.{Kind, Numbers, Pointers, NoCell}
use Rattle.sc_tree.specs.declared.ctype.IntKind.TheVariants as kind
use Rattle.sc_tree.specs.declared.ctype.Widths.{Widths}
use Rattle.sc_tree.specs.declared.ctype.Widths.TheVariants as widths
use Rattle.sc_world.specs.Tree.{Ty, Bool', Int, int_bits, is_integer}
use Rattle.flow_turns.specs.Kept.{vals_top}
use Rattle.flow_updates.specs.Widths.{of_width, kind_of_width}

pub numbers_same : {a b : ℕ} → Numbers a ≡ Numbers b → a ≡ b
numbers_same e = cc

pub no_word : (x y : Val) (w : Words) → x ≡ y → x ≡ Word w → val_kind y ≡ Pointers → ⊥
no_word x y w e is k = not_pointers (sym (ap val_kind is) ∙ (ap val_kind e ∙ k))
  where
    not_pointers : {n : ℕ} → Numbers n ≡ Pointers → ⊥
    not_pointers e = cc

pub no_unit : (x y : Val) → x ≡ y → x ≡ Empty → val_kind y ≡ Pointers → ⊥
no_unit x y e is k = not_pointers (sym (ap val_kind is) ∙ (ap val_kind e ∙ k))
  where
    not_pointers : NoCell ≡ Pointers → ⊥
    not_pointers e = cc

-- Types by width.

width_integer : (n : ℕ) → is_integer (of_width n) ≡ true
width_integer n = by (nat_eq n 1)
  where
    by : (b : Bool) → is_integer (if b then Bool' else Int (kind_of_width n)) ≡ true
    by true = refl
    by false = refl

width_found : (w : Widths) (t : Ty) → is_integer t ≡ true → int_bits w (of_width (int_bits w t)) ≡ int_bits w t
width_found w Bool' e = refl
width_found w (Int kind.Char) e = refl
width_found w (Int kind.SChar) e = refl
width_found w (Int kind.UChar) e = refl
width_found w (Int kind.Short) e = refl
width_found w (Int kind.UShort) e = refl
width_found w (Int kind.Int) e = refl
width_found w (Int kind.UInt) e = refl
width_found widths.Ilp32 (Int kind.Long) e = refl
width_found widths.Lp64 (Int kind.Long) e = refl
width_found widths.Ilp32 (Int kind.ULong) e = refl
width_found widths.Lp64 (Int kind.ULong) e = refl
width_found w (Int kind.LongLong) e = refl
width_found w (Int kind.ULongLong) e = refl
width_found w _ e = absurd (cc)

pub word_type : (x : Words) (u : Ty) (n : ℕ) → u ≡ of_width n → n ≡ length x.bits.items → (w : Widths) (t : Ty) → is_integer t ≡ true → val_kind (Word x) ≡ Numbers (int_bits w t)
    → (is_integer u ≡ true) × (val_kind (Word x) ≡ Numbers (int_bits w u))
word_type x u n is many w t integer k =
    let same : length x.bits.items ≡ int_bits w t = numbers_same k in
    let wide : int_bits w u ≡ int_bits w t = ap (int_bits w) (is ∙ ap of_width (many ∙ same)) ∙ width_found w t integer in
    (ap is_integer is ∙ width_integer n, ap Numbers (same ∙ sym wide))

pub no_set_type : (x : Sets) (u : Ty) (w : Widths) (t : Ty) → is_integer t ≡ true → val_kind (Set x) ≡ Numbers (int_bits w t)
    → (is_integer u ≡ true) × (val_kind (Set x) ≡ Numbers (int_bits w u))
no_set_type x u w t integer k = absurd (not_numbers k)
  where
    not_numbers : {n : ℕ} → Pointers ≡ Numbers n → ⊥
    not_numbers e = cc

pub no_unit_type : (u : Ty) (w : Widths) (t : Ty) → is_integer t ≡ true → val_kind Empty ≡ Numbers (int_bits w t) → (is_integer u ≡ true) × (val_kind Empty ≡ Numbers (int_bits w u))
no_unit_type u w t integer k = absurd (not_numbers k)
  where
    not_numbers : {n : ℕ} → NoCell ≡ Numbers n → ⊥
    not_numbers e = cc

-- Numbers in range.

pub val_there : (xs : List Val) (k : ℕ) (d e : Val) → k < length xs → slice_index_or xs k d ≡ slice_index_or xs k e
val_there [] k d e low = absurd (omega (arith, low))
val_there (x ∷ xs) zero d e low = refl
val_there (x ∷ xs) (suc k) d e low = val_there xs k d e (omega (arith, low))

pub got_low : {A : Type 0} (xs : List A) (k : ℕ) (x : A) → slice_get xs k ≡ Some x → k < length xs
got_low [] k x e = absurd (cc)
got_low (y ∷ xs) zero x e = omega arith
got_low (y ∷ xs) (suc k) x e = (let low = got_low xs k x e in omega arith)

pub val_low : (xs : List Val) (k : ℕ) (d : Val) → k < length xs → val_top (slice_index_or xs k d) ≤ vals_top xs
unfolding vals_top
val_low [] k d low = absurd (omega (arith, low))
val_low (x ∷ xs) zero d low = omega arith
val_low (x ∷ xs) (suc k) d low = omega (arith, val_low xs k d (omega (arith, low)))

pub set_low : (xs : List Val) (k : ℕ) (x : Sets) (n : ℕ) → k < length xs → Set x ≡ slice_index_or xs k Empty → vals_top xs ≤ n → guards_top x.pairs.items ≤ n
set_low xs k x n low is top = (let same : guards_top x.pairs.items ≡ val_top (slice_index_or xs k Empty) = ap val_top is in let below = val_low xs k Empty low in omega arith)
