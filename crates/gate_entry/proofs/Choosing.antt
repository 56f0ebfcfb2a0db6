-- Bits and numbers of the choice.
use Rattle.std.proofs.Common.{◌≡◌, ℕ, ◌+◌, ◌-◌, ◌*◌, ◌<◌, ◌≤◌, nat_eq, Bool, true, false, List, [], ◌∷◌, ◌++◌, length, inl, inr, refl, sym, ◌∙◌, ap, subst, arith, length-append}
use Rattle.std.proofs.lemmas.List.{get_or_past}
use Rattle.bit_net.specs.declared.nodes.Gate.{Gate}
use Rattle.bit_net.specs.declared.nodes.Node.{Node}
use Rattle.bit_net.specs.Runs.{Runs, Grown, Gives}
use Rattle.bit_words.specs.Number.{bit, number, top}
use Rattle.bit_words.proofs.NumberLemmas.{number-nil, number-push, top-nil, top-push}
use Rattle.sc_world.specs.Layout.{Layout}
use Rattle.sc_world.specs.World.{digit, bit_at, number_from, number_at}
use Rattle.layout_base.specs.Seen.{layout_of}
use Rattle.run_world.specs.declared.pointers.Here.{Here}
use Rattle.run_world.specs.Seen.{env}
use Rattle.run_entry.proofs.Digits.{digit_more}
use Rattle.gate_entry.specs.Entry.{HasBits, IsBit, IsChosenNumber, IsNumber}

pub bit_within : (p : Layout) (ns : List Node) (k g : ℕ) → Gives ns g (λ choice v. choice k) → IsBit p ns k g
bit_within p ns k g gives = record { below = gives.below; value = λ bits v runs has. gives.value (bit_at bits) v runs }

beyond : (p : Layout) (bits : List Bool) (k : ℕ) → p.bits ≤ k → HasBits p bits k 1 → bit_at bits k ≡ false
beyond p bits k high (inl short) = get_or_past bits k false (omega arith)
beyond p bits k high (inr within) = let low : k + 0 < p.bits = within 0 (omega arith) in absurd (omega arith)

pub bit_beyond : (p : Layout) (ns : List Node) (k g : ℕ) → p.bits ≤ k → Gives ns g (λ choice v. false) → IsBit p ns k g
bit_beyond p ns k g high never =
    record { below = never.below; value = λ bits v runs has. never.value (bit_at bits) v runs ∙ sym (beyond p bits k high has) }

-- a number that is not below the bits of what is laid out
pub beyond_layout : (h : Here) (k n : ℕ) → n ≡ (layout_of h.places.now).bits → n ≤ k → (env h).layout.bits ≤ k
unfolding env
beyond_layout h k n e high = subst (λ m. m ≤ k) e high

-- The first k digits of a number.

pub record DigitsSoFar (p : Layout) (ns : List Node) (at width k : ℕ) (word : List Gate) : Type 0 where
  pub wide : length word ≡ k
  pub below : top word ≤ length ns
  pub value : (bits : List Bool) (v : ℕ → Bool) → Runs ns (bit_at bits) v → HasBits p bits at width
      → number_from (width - k) bits (at + k) (number v word) ≡ number_at bits at width

digit_is : (b : Bool) → bit b ≡ digit b
digit_is true = refl
digit_is false = refl

one_bit : (p : Layout) (bits : List Bool) (at width k : ℕ) → k < width → HasBits p bits at width → HasBits p bits (at + k) 1
one_bit p bits at width k low (inl short) = inl short
one_bit p bits at width k low (inr within) =
    inr (λ j first. (let here : at + k < p.bits = within k low in omega arith))

pub digits_none : (p : Layout) (ns : List Node) (at width : ℕ) (word : List Gate) → word ≡ [] → DigitsSoFar p ns at width 0 word
digits_none p ns at width word e =
    record {
      wide = ap length e;
      below = omega (arith, ap top e, top-nil);
      value = λ bits v runs has.
          (let here : at + 0 ≡ at = omega arith in
          let none : number v word ≡ 0 = ap (λ w. number v w) e ∙ number-nil v in
          let all : width - 0 ≡ width = omega arith in
          ap (λ m. number_from m bits (at + 0) (number v word)) all ∙ ap (λ j. number_from width bits j (number v word)) here
          ∙ ap (λ n. number_from width bits at n) none);
    }

pub digits_step : (p : Layout) (ns : List Node) (at width k : ℕ) (word new : List Gate) (g : Gate) → k < width → new ≡ word ++ g ∷ []
    → IsBit p ns (at + k) g.at → DigitsSoFar p ns at width k word → DigitsSoFar p ns at width (k + 1) new
digits_step p ns at width k word new g low pushed one so_far =
    record {
      wide = ap length pushed ∙ length-append word (g ∷ []) ∙ ap (λ n. n + 1) so_far.wide;
      below = omega (arith, ap top pushed, top-push word g, one.below, so_far.below);
      value = λ bits v runs has.
          (let now : number v new ≡ 2 * number v word + digit (bit_at bits (at + k)) =
          ap (λ w. number v w) pushed ∙ number-push v word g
          ∙ ap (λ b. 2 * number v word + b) (ap bit (one.value bits v runs (one_bit p bits at width k low has)) ∙ digit_is (bit_at bits (at + k))) in
          ap (λ n. number_from (width - (k + 1)) bits (at + (k + 1)) n) now
          ∙ sym (digit_more width k at (number v word) bits low) ∙ so_far.value bits v runs has);
    }

pub digits_whole : (p : Layout) (ns : List Node) (at width k : ℕ) (word : List Gate) → k ≡ width → DigitsSoFar p ns at width k word
    → IsNumber p ns at width word
digits_whole p ns at width k word all so_far =
    record {
      wide = so_far.wide ∙ all;
      below = so_far.below;
      value = λ bits v runs has.
          (let done : width - k ≡ 0 = omega arith in
          sym (ap (λ m. number_from m bits (at + k) (number v word)) done) ∙ so_far.value bits v runs has);
    }

-- the gate of a comparison with the word of these bits
pub chosen_number_is : (p : Layout) (old ns : List Node) (at width n gate : ℕ) (word : List Gate) → Grown old ns → IsNumber p old at width word
    → Gives ns gate (λ choice v. nat_eq (number v word) n) → IsChosenNumber p ns at width n gate
chosen_number_is p old ns at width n gate word grown is gives =
    record {
      below = gives.below;
      value = λ bits v runs has. gives.value (bit_at bits) v runs ∙ ap (λ k. nat_eq k n) (is.value bits v (grown.runs (bit_at bits) v runs) has);
    }
