-- The state that the choice names.
use Rattle.std.proofs.Common.{◌≡◌, ℕ, ◌+◌, ◌<◌, ◌≤◌, Bool, true, false, nat_le, List, length, if◌then◌else◌, inl, ◌∙◌, ap, arith}
use Rattle.bit_net.specs.declared.nodes.Gate.{Gate}
use Rattle.bit_net.specs.declared.nodes.Node.{Node}
use Rattle.bit_net.specs.Runs.{Grown}
use Rattle.bit_words.specs.Number.{number}
use Rattle.bit_words.specs.Spells.{Spells}
use Rattle.fsm_spec.specs.Table.{bits_of_states, state_of_number}
use Rattle.sc_world.specs.Source.{Source}
use Rattle.sc_world.specs.Layout.{Layout}
use Rattle.sc_world.specs.World.{bit_at, number_at, states}
use Rattle.gate_entry.specs.Entry.{IsNumber}
use Rattle.gate_states.specs.States.{IsStateAfter}

few_of : (k : ℕ) → (0 < bits_of_states k) × (bits_of_states k ≤ 3)
few_of k = by (nat_le k 2) (nat_le k 4)
  where
    by : (a b : Bool) → (0 < (if a then 1 else (if b then 2 else 3))) × ((if a then 1 else (if b then 2 else 3)) ≤ 3)
    by true b = (omega arith, omega arith)
    by false true = (omega arith, omega arith)
    by false false = (omega arith, omega arith)

pub some_bits : (n k : ℕ) → n ≡ bits_of_states k → 0 < n
some_bits n k e = omega (arith, (few_of k).0)

pub few_bits : (n k : ℕ) → n ≡ bits_of_states k → n ≤ 3
few_bits n k e = omega (arith, (few_of k).1)

pub is_after : (s : Source) (p : Layout) (n1 ns : List Node) (bit at width k : ℕ) (name state : List Gate) → Grown n1 ns → at ≡ bit + 1
    → width ≡ bits_of_states (states s) → k ≡ states s
    → IsNumber p n1 at width name → Spells ns state 4 (λ v. state_of_number k (number v name)) → IsStateAfter s p ns bit state
is_after s p n1 ns bit at width k name state grown here wide many is spells =
    record {
      wide = spells.wide;
      below = spells.below;
      value = λ bits v runs few temps turn rows place.
          spells.value (bit_at bits) v runs
          ∙ ap (state_of_number k) (is.value bits v (grown.runs (bit_at bits) v runs) (inl few) ∙ ap (λ j. number_at bits j width) here
          ∙ ap (number_at bits (bit + 1)) wide)
          ∙ ap (λ j. state_of_number j (number_at bits (bit + 1) (bits_of_states (states s)))) many;
    }
