-- One case for each number of states.
use Rattle.std.proofs.Common.{◌≤◌, ◌<◌, ◌-◌, ◌^◌, ℕ, arith, inl, inr}
use Rattle.std.proofs.lemmas.Bool.{cases_Bool, leb-true, leb-false, ltb-true}
use Rattle.std.specs.Prelude.{nat_le, nat_lt}
use Rattle.fsm_spec.specs.Table.{bits_of_states, state_of_number}
use Rattle.fsm_spec.proofs.laws.state_numbers.Goals as goal

enough : (k : ℕ) → 2 ≤ k → k ≤ 8 → k ≤ 2 ^ bits_of_states k
enough k a b = elim (cases_Bool (nat_le k 2)) [
  | inl t ↦ rw t (leb-true k 2 t)
  | inr f ↦ rw f (elim (cases_Bool (nat_le k 4)) [
    | inl t ↦ rw t (leb-true k 4 t)
    | inr g ↦ rw g b
  ])
]

fewest : (k : ℕ) → 2 ≤ k → k ≤ 8 → 2 ^ (bits_of_states k - 1) < k
fewest k a b = elim (cases_Bool (nat_le k 2)) [
  | inl t ↦ rw t (omega arith)
  | inr f ↦ rw f (elim (cases_Bool (nat_le k 4)) [
    | inl t ↦ (let h : 2 < k = leb-false k 2 f in rw t h)
    | inr g ↦ (let h : 4 < k = leb-false k 4 g in rw g h)
  ])
]

in_range : (k n : ℕ) → 0 < k → state_of_number k n < k
in_range k n a = elim (cases_Bool (nat_lt n k)) [
  | inl t ↦ rw t (ltb-true n k t)
  | inr f ↦ rw f (omega arith)
]

pub returns : goal.returns
returns c = record { enough = enough; fewest = fewest; in_range = in_range }
