-- Words of one gate, and words of a number.
use Rattle.std.proofs.Common.{◌≡◌, ℕ, suc, ◌+◌, ◌-◌, ◌*◌, ◌/◌, ◌%◌, ◌^◌, ◌<◌, ◌≤◌, Bool, true, false, if◌then◌else◌, nat_eq}
use Rattle.std.proofs.Common.{List, [], ◌∷◌, ◌++◌, length, reverse, refl, sym, ◌∙◌, ap, subst, arith, eqb-true, add-one, length-append}
use Rattle.std.proofs.Math.Nat.{pow-suc, mod-one, mod-eq_of_lt, pow-le-pow_right, div-eq_of_lt, div-add-mod', mod-lt}
use Rattle.std.proofs.lemmas.Nat.{pow_pos}
use Rattle.bit_net.specs.declared.nodes.Gate.{Gate}
use Rattle.bit_net.specs.declared.nodes.Node.{Node}
use Rattle.bit_net.specs.Runs.{Grown, Gives}
use Rattle.bit_words.specs.Number.{bit, number, top}
use Rattle.bit_words.specs.Spells.{Spells}
use Rattle.bit_words.proofs.NumberLemmas.{number-nil, number-push, number-below, number-reverse_push, top-push}
use Rattle.bit_words.proofs.StepLemmas.{number_more, odd_bit}

pub gate_word_spells : (ns : List Node) (zeros word : List Gate) (off : ℕ) (gate : Gate) (width : ℕ) → 0 < width → gate.at < length ns
    → Gives ns off (λ choice v. false) → Spells ns zeros (width - 1) (λ v. if v off then 2 ^ (width - 1) - 1 else 0) → word ≡ zeros ++ gate ∷ []
    → Spells ns word width (λ v. bit (v gate.at))
gate_word_spells ns zeros word off gate width some below never zero' e = record {
  wide = omega (arith, ap length e, length-append zeros (gate ∷ []), zero'.wide);
  below = omega (arith, ap top e, top-push zeros gate, zero'.below);
  value = λ choice v r.
      ap (number v) e ∙ number-push v zeros gate ∙ rw (zero'.value choice v r, never.value choice v r) (omega arith);
}

pub number_none : (v : ℕ → Bool) (bits : List Gate) (n : ℕ) → bits ≡ [] → number v (reverse bits) ≡ n % 2 ^ 0
number_none v bits n e = ap (λ (l : List Gate). number v (reverse l)) e ∙ number-nil v ∙ sym (mod-one n)

pub number_step : (v : ℕ → Bool) (bits new : List Gate) (g : Gate) (rest n i : ℕ) → new ≡ bits ++ g ∷ [] → length bits ≡ i
    → number v (reverse bits) ≡ n % 2 ^ i → rest ≡ n / 2 ^ i → v g.at ≡ nat_eq (rest % 2) 1
    → number v (reverse new) ≡ n % 2 ^ (i + 1)
number_step v bits new g rest n i e wide so_far left here =
    let double : 2 ^ i * 2 ≡ 2 ^ (i + 1) = sym (pow-suc 2 i) ∙ ap (λ k. 2 ^ k) (sym (add-one i)) in
    ap (λ (l : List Gate). number v (reverse l)) e ∙ number-reverse_push v bits g
    ∙ ap (λ k. bit (v g.at) * 2 ^ k + number v (reverse bits)) wide
    ∙ ap (λ k. k * 2 ^ i + number v (reverse bits)) (ap bit here ∙ odd_bit rest ∙ ap (λ k. k % 2) left)
    ∙ ap (λ k. n / 2 ^ i % 2 * 2 ^ i + k) so_far
    ∙ (number_more (2 ^ i) n (pow_pos i)).0 ∙ ap (λ k. n % k) double

pub number_left : (rest n i : ℕ) → rest ≡ n / 2 ^ i → rest / 2 ≡ n / 2 ^ (i + 1)
number_left rest n i left =
    let double : 2 ^ i * 2 ≡ 2 ^ (i + 1) = sym (pow-suc 2 i) ∙ ap (λ k. 2 ^ k) (sym (add-one i)) in
    ap (λ k. k / 2) left ∙ (number_more (2 ^ i) n (pow_pos i)).1 ∙ ap (λ k. n / k) double

-- a number that does not fit the width is not that of the word
pub never_spelt : (v : ℕ → Bool) (gs : List Gate) (n : ℕ) → (n < 2 ^ length gs → ⊥) → false ≡ nat_eq (number v gs) n
never_spelt v gs n h = by (nat_eq (number v gs) n) refl
  where
    by : (b : Bool) → nat_eq (number v gs) n ≡ b → false ≡ nat_eq (number v gs) n
    by false e = sym e
    by true e = absurd (h (subst (λ (k : ℕ). k < 2 ^ length gs) (eqb-true (number v gs) n e) (number-below v gs)))

-- a number that fits is its own rest
pub fitting : (n width : ℕ) → n < 2 ^ width → n % 2 ^ width ≡ n
fitting n width h = mod-eq_of_lt h

-- 64 bits fit any wider word
pub fits_wide : (n width : ℕ) → n < 2 ^ 64 → 64 ≤ width → n < 2 ^ width
fits_wide n width low wide = let up : 2 ^ 64 ≤ 2 ^ width = pow-le-pow_right (omega arith) wide in omega arith

-- nothing is left above the width just where the number fits
pub fits_by_rest : (n width : ℕ) → n / 2 ^ width ≡ 0 → n < 2 ^ width
fits_by_rest n width e = let low = mod-lt n (pow_pos width) in let whole = div-add-mod' n (2 ^ width) in omega (arith, low, rw e at whole)

pub rest_by_fit : (n width : ℕ) → n < 2 ^ width → n / 2 ^ width ≡ 0
rest_by_fit n width h = div-eq_of_lt h

-- the gate of a comparison with the constant word of a number that fits
pub spelt : (ns : List Node) (gate : ℕ) (a word : List Gate) (before : List Node) (n : ℕ) → Grown before ns → Spells before word (length a) (λ v. n % 2 ^ length a) → n < 2 ^ length a
    → Gives ns gate (λ choice v. nat_eq (number v a) (number v word)) → Gives ns gate (λ choice v. nat_eq (number v a) n)
spelt ns gate a word before n grown spells low gives = record {
  below = gives.below;
  value = λ choice v r. gives.value choice v r ∙ ap (λ k. nat_eq (number v a) k) (spells.value choice v (grown.runs choice v r) ∙ fitting n (length a) low);
}

pub unspelt : (ns : List Node) (gate : ℕ) (a : List Gate) (n : ℕ) → (n < 2 ^ length a → ⊥) → Gives ns gate (λ choice v. false) → Gives ns gate (λ choice v. nat_eq (number v a) n)
unspelt ns gate a n far gives = record { below = gives.below; value = λ choice v r. gives.value choice v r ∙ never_spelt v a n far }
