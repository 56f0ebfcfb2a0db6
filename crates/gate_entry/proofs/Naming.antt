-- States of locations.
use Rattle.std.proofs.Common.{◌≡◌, ◌⊎◌, ℕ, ◌-◌, ◌%◌, ◌^◌, ◌<◌, ◌≤◌, Bool, true, false, nat_lt, nat_le, Option, Some, None, IfSome, List, length, if◌then◌else◌, inl, inr, sym, ◌∙◌, ap, subst, arith, lt-ltb, mod-eq_of_lt}
use Rattle.std.proofs.Math.Pow.{pow_mono}
use Rattle.bit_net.specs.declared.nodes.Gate.{Gate}
use Rattle.bit_net.specs.declared.nodes.Node.{Node}
use Rattle.bit_net.specs.Runs.{Runs, Grown, Gives}
use Rattle.bit_words.specs.Number.{number, converted}
use Rattle.bit_words.specs.Spells.{Spells}
use Rattle.bit_words.proofs.NumberLemmas.{number-below}
use Rattle.fsm_spec.specs.Table.{bits_of_states, state_of_number}
use Rattle.sc_world.specs.Source.{Source}
use Rattle.sc_world.specs.Layout.{Layout, Location}
use Rattle.sc_world.specs.World.{bit_at, number_at, states, entry_state_at}
use Rattle.gate_entry.specs.Entry.{AreWithin, HasBits, IsNumber, IsState, ReadsWithin}

few_bits : (k : ℕ) → (0 < bits_of_states k) × (bits_of_states k ≤ 3)
few_bits k = by (nat_le k 2) (nat_le k 4)
  where
    by : (a b : Bool) → (0 < (if a then 1 else (if b then 2 else 3))) × ((if a then 1 else (if b then 2 else 3)) ≤ 3)
    by true b = (omega arith, omega arith)
    by false true = (omega arith, omega arith)
    by false false = (omega arith, omega arith)

pub some_bits_of : (n k : ℕ) → n ≡ bits_of_states k → 0 < n
some_bits_of n k e = omega (arith, (few_bits k).0)

pub few_bits_of : (n k : ℕ) → n ≡ bits_of_states k → n ≤ 3
few_bits_of n k e = omega (arith, (few_bits k).1)

-- a word of 3 bits at most spells a number below 8
small : (v : ℕ → Bool) (word : List Gate) → length word ≤ 3 → number v word < 8
small v word few =
    let most : 2 ^ length word ≤ 2 ^ 3 = pow_mono few in
    omega (arith, number-below v word, most)

widened : (ns : List Node) (word wide : List Gate) → length word ≤ 3
    → Spells ns wide 4 (λ v. converted false (length word) 4 (number v word)) → (choice v : ℕ → Bool) → Runs ns choice v → number v wide ≡ number v word
widened ns word wide few is choice v runs =
    let low : number v word < 2 ^ 4 = omega (arith, small v word few) in
    is.value choice v runs ∙ mod-eq_of_lt low

pub named_many : (ns : List Node) (k : ℕ) (word wide : List Gate) → length word ≤ 3 → 8 ≤ k
    → Spells ns wide 4 (λ v. converted false (length word) 4 (number v word)) → Spells ns wide 4 (λ v. state_of_number k (number v word))
named_many ns k word wide few many is =
    record {
      wide = is.wide;
      below = is.below;
      value = λ choice v runs.
          (let low : number v word < k = omega (arith, small v word few) in
          widened ns word wide few is choice v runs
          ∙ sym (ap (λ b. if b then number v word else (k - 1)) (lt-ltb (number v word) k low)));
    }

pub named_few : (n0 n1 ns : List Node) (k l : ℕ) (word wide count last state : List Gate) (known : ℕ) → length word ≤ 3 → k < 8 → l ≡ k - 1
    → Grown n0 n1 → Grown n1 ns
    → Spells n0 wide 4 (λ v. converted false (length word) 4 (number v word)) → Spells n0 count 4 (λ v. k % 2 ^ 4) → Spells n0 last 4 (λ v. l % 2 ^ 4)
    → Gives n1 known (λ choice v. nat_lt (number v wide) (number v count))
    → Spells ns state (length wide) (λ v. if v known then number v wide else number v last)
    → Spells ns state 4 (λ v. state_of_number k (number v word))
named_few n0 n1 ns k l word wide count last state known few low before grown1 grown2 is_wide is_count is_last is_known is_state =
    record {
      wide = is_state.wide ∙ is_wide.wide;
      below = is_state.below;
      value = λ choice v runs.
          (let r1 = grown2.runs choice v runs in
          let r0 = grown1.runs choice v r1 in
          let n : number v wide ≡ number v word = widened n0 word wide few is_wide choice v r0 in
          let c : number v count ≡ k = is_count.value choice v r0 ∙ mod-eq_of_lt (omega arith) in
          let z : number v last ≡ k - 1 = is_last.value choice v r0 ∙ mod-eq_of_lt (omega arith) ∙ before in
          let test : v known ≡ nat_lt (number v word) k = is_known.value choice v r1 ∙ ap (λ m. nat_lt m (number v count)) n ∙ ap (λ m. nat_lt (number v word) m) c in
          is_state.value choice v runs ∙ ap (λ b. if b then number v wide else number v last) test
          ∙ ap (λ m. if nat_lt (number v word) k then m else number v last) n
          ∙ ap (λ m. if nat_lt (number v word) k then number v word else m) z);
    }

-- The state of a location.

pub state_any : (s : Source) (p : Layout) (ns : List Node) (l : Location) (word : List Gate) → l.state ≡ None → Spells ns word 4 (λ v. 15 % 2 ^ 4)
    → IsState s p ns l word
state_any s p ns l word e is =
    record {
      wide = is.wide;
      below = is.below;
      value = λ bits v runs has. is.value (bit_at bits) v runs ∙ sym (ap (λ o. entry_state_at s bits o) e);
    }

reads_state : (s : Source) (p : Layout) (l : Location) (bits : List Bool) (at : ℕ) → l.state ≡ Some at
    → (length bits ≤ p.bits) ⊎ ReadsWithin s p l → HasBits p bits at (bits_of_states (states s))
reads_state s p l bits at e (inl short) = inl short
reads_state s p l bits at e (inr within) =
    inr (subst (λ (o : Option ℕ). IfSome o (λ k. AreWithin p k (bits_of_states (states s)))) e within.state)

pub state_chosen : (s : Source) (p : Layout) (old ns : List Node) (l : Location) (at width k : ℕ) (chosen named : List Gate) → Grown old ns
    → l.state ≡ Some at → width ≡ bits_of_states (states s) → k ≡ states s
    → IsNumber p old at width chosen → Spells ns named 4 (λ v. state_of_number k (number v chosen)) → IsState s p ns l named
state_chosen s p old ns l at width k chosen named grown e wide many is spells =
    record {
      wide = spells.wide;
      below = spells.below;
      value = λ bits v runs has.
          (let from : HasBits p bits at width = subst (λ w. HasBits p bits at w) (sym wide) (reads_state s p l bits at e has) in
          let n : number v chosen ≡ number_at bits at (bits_of_states (states s)) =
          is.value bits v (grown.runs (bit_at bits) v runs) from ∙ ap (λ w. number_at bits at w) wide in
          spells.value (bit_at bits) v runs ∙ ap (λ m. state_of_number k m) n
          ∙ ap (λ m. state_of_number m (number_at bits at (bits_of_states (states s)))) many
          ∙ sym (ap (λ o. entry_state_at s bits o) e));
    }

pub ruleset state_laws = (state_any, state_chosen)
