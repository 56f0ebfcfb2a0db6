use Rattle.std.proofs.Common.{◌≡◌, ℕ, ◌+◌, ◌-◌, length}
use Rattle.clause_builder.specs.Cones.{lit_at}
use Rattle.clause_builder.proofs.marked.reserve.Given as goal

-- no gate got a literal
abbrev pub invariant-loop-gate : goal.invariant-loop-gate
invariant-loop-gate l = (g : ℕ) → lit_at l.lits.items g ≡ lit_at l.fn.lits.items g

abbrev pub decreases-loop-gate : goal.decreases-loop-gate
decreases-loop-gate l = l.gate.at + 1 - length l.lits.items
