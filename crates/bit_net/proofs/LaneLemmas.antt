-- Bits of words: the table of a node bit by bit, and one word more.
use Rattle.std.proofs.Common.{◌≡◌, ℕ, ◌+◌, ◌-◌, ◌%◌, ◌^◌, min, max, zero, suc, ◌<◌, ◌≤◌, Bool, true, false, not, ◌&&◌, ◌||◌, if◌then◌else◌, nat_eq, List, [], ◌∷◌, ◌++◌, length, slice_get, Some, refl, sym, ◌∙◌, ap, subst, arith, length-append, bit_and, bit_or, bit_xor, w64, ◌⊎◌, inl, inr}
use Rattle.std.proofs.lemmas.Bool.{cases_lt}
use Rattle.std.proofs.lemmas.Nat.Bits.{bit_at_and, bit_at_or, bit_at_xor, bit_at_not, bit_at_ones, bit_at-zero, bit_at-lt}
use Rattle.std.proofs.Math.ListN.{get_or-append}
use Rattle.std.proofs.Math.Seq.{get_or-append_seam}
use Rattle.std.specs.Int.{bit_at, bit_not}
use Rattle.bit_net.specs.declared.nodes.Node.{Node}
use Rattle.bit_net.specs.Value.{xor, table, value}
use Rattle.bit_net.specs.Circuit.{input_count, IsCircuit, ReadsBelow}
use Rattle.bit_net.specs.Runs.{Grown}
use Rattle.bit_net.specs.Lanes.{bit, lane, AreLanes}
use Rattle.bit_net.proofs.ValueLemmas.{table-agree, value-node}
use Rattle.bit_net.proofs.LawLemmas.{value-Grown}

zero_or_one : (n : ℕ) → n < 2 → (n ≡ 0) ⊎ (n ≡ 1)
zero_or_one zero h = inl refl
zero_or_one (suc zero) h = inr refl
zero_or_one (suc (suc n)) h = absurd (omega arith)

-- the value of a bit, over numbers that are 0 or 1
both : (a b : ℕ) → a < 2 → b < 2 → nat_eq (min a b) 1 ≡ (nat_eq a 1 && nat_eq b 1)
both a b h i = elim (zero_or_one a h) [
  | inl e ↦ elim (zero_or_one b i) [ inl f ↦ rw (e, f) refl | inr f ↦ rw (e, f) refl ]
  | inr e ↦ elim (zero_or_one b i) [ inl f ↦ rw (e, f) refl | inr f ↦ rw (e, f) refl ]
]

some : (a b : ℕ) → a < 2 → b < 2 → nat_eq (max a b) 1 ≡ (nat_eq a 1 || nat_eq b 1)
some a b h i = elim (zero_or_one a h) [
  | inl e ↦ elim (zero_or_one b i) [ inl f ↦ rw (e, f) refl | inr f ↦ rw (e, f) refl ]
  | inr e ↦ elim (zero_or_one b i) [ inl f ↦ rw (e, f) refl | inr f ↦ rw (e, f) refl ]
]

just_one : (a b : ℕ) → a < 2 → b < 2 → nat_eq ((a + b) % 2) 1 ≡ xor (nat_eq a 1) (nat_eq b 1)
just_one a b h i = elim (zero_or_one a h) [
  | inl e ↦ elim (zero_or_one b i) [ inl f ↦ rw (e, f) refl | inr f ↦ rw (e, f) refl ]
  | inr e ↦ elim (zero_or_one b i) [ inl f ↦ rw (e, f) refl | inr f ↦ rw (e, f) refl ]
]

turned : (a : ℕ) → a < 2 → nat_eq (1 - a) 1 ≡ not (nat_eq a 1)
turned a h = elim (zero_or_one a h) [ inl e ↦ rw e refl | inr e ↦ rw e refl ]

pub bit-and : (a b k : ℕ) → bit (bit_and a b) k ≡ (bit a k && bit b k)
unfolding bit
bit-and a b k = rw (bit_at_and a b k) (both (bit_at a k) (bit_at b k) (bit_at-lt a k) (bit_at-lt b k))

pub bit-or : (a b k : ℕ) → bit (bit_or a b) k ≡ (bit a k || bit b k)
unfolding bit
bit-or a b k = rw (bit_at_or a b k) (some (bit_at a k) (bit_at b k) (bit_at-lt a k) (bit_at-lt b k))

pub bit-xor : (a b k : ℕ) → bit (bit_xor a b) k ≡ xor (bit a k) (bit b k)
unfolding bit
bit-xor a b k = rw (bit_at_xor a b k) (just_one (bit_at a k) (bit_at b k) (bit_at-lt a k) (bit_at-lt b k))

pub bit-not : (a k : ℕ) → a < 2 ^ 64 → k < 64 → bit (bit_not w64 a) k ≡ not (bit a k)
unfolding bit
bit-not a k low within = rw (bit_at_not w64 a k low within) (turned (bit_at a k) (bit_at-lt a k))

pub bit-none : (k : ℕ) → bit 0 k ≡ false
unfolding bit
bit-none k = rw (bit_at-zero k) refl

pub bit-all : (k : ℕ) → k < 64 → bit (2 ^ 64 - 1) k ≡ true
unfolding bit
bit-all k h = rw (bit_at_ones 64 k h) refl

chosen : (c a b : Bool) → ((c && a) || (not c && b)) ≡ (if c then a else b)
chosen true true b = refl
chosen true false b = refl
chosen false a b = refl

pub bit-mux : (c a b k : ℕ) → c < 2 ^ 64 → k < 64 → bit (bit_or (bit_and c a) (bit_and (bit_not w64 c) b)) k ≡ (if bit c k then bit a k else bit b k)
bit-mux c a b k low within = rw (bit-or (bit_and c a) (bit_and (bit_not w64 c) b) k, bit-and c a k, bit-and (bit_not w64 c) b k, bit-not c k low within) (chosen (bit c k) (bit a k) (bit b k))

-- the next node reads the words so far, and the inputs
pub reads_words : (ns : List Node) (inputs words : List ℕ) (g : ℕ) (n : Node) → IsCircuit ns → slice_get ns g ≡ Some n → length inputs ≡ input_count ns → g ≡ length words
    → ReadsBelow (length words) (length inputs) n
reads_words ns inputs words g n c here wide count =
    subst (λ (k : ℕ). ReadsBelow k (length inputs) n) count (subst (λ (k : ℕ). ReadsBelow g k n) (sym wide) (c.earlier g n here))

-- words that are right, and the word of the next gate
pub lanes-more : (ns : List Node) (inputs words : List ℕ) (word : ℕ) (n : Node) → IsCircuit ns → AreLanes ns inputs words → slice_get ns (length words) ≡ Some n
    → length words < length ns → ((k : ℕ) → k < 64 → bit word k ≡ table (lane inputs k) (lane words k) n) → AreLanes ns inputs (words ++ word ∷ [])
lanes-more ns inputs words word n c before here low e = record {
  within = omega (arith, length-append words (word ∷ []));
  same = λ k g within inside. by k g within (cases_lt g (length words)) (omega (arith, length-append words (word ∷ []), inside));
}
  where
    by : (k g : ℕ) → k < 64 → (g < length words) ⊎ (length words ≤ g) → g < length words + 1 → lane (words ++ word ∷ []) k g ≡ value (lane inputs k) ns g
    by k g within (inl old) inside = ap (λ w. bit w k) (get_or-append words (word ∷ []) 0 g old) ∙ before.same k g within old
    by k g within (inr new) inside =
        let last : length words ≡ g = omega arith in
        let reads = c.earlier (length words) n here in
        subst (λ (j : ℕ). lane (words ++ word ∷ []) k j ≡ value (lane inputs k) ns j) last
        (ap (λ w. bit w k) (get_or-append_seam words word [] 0) ∙ e k within
        ∙ table-agree (lane inputs k) (lane words k) (value (lane inputs k) ns) (length words) (input_count ns) n reads (λ j less. before.same k j within less)
        ∙ sym (value-node (lane inputs k) ns (length words) (input_count ns) n here reads))

pub lanes-grown : (old new : List Node) (inputs words : List ℕ) → Grown old new → AreLanes old inputs words → AreLanes new inputs words
lanes-grown old new inputs words grown r = record {
  within = omega (arith, r.within, grown.longer);
  same = λ k g within low. r.same k g within low ∙ sym (value-Grown old new g (lane inputs k) grown (omega (arith, r.within)));
}
