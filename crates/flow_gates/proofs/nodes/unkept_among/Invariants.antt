use Rattle.std.proofs.Common.{◌≡◌, ℕ, ◌+◌, ◌<◌, true}
use Rattle.flow_turns.specs.Kept.{is_kept}
use Rattle.flow_gates.proofs.nodes.unkept_among.Given as goal

abbrev pub invariant-loop-k : goal.invariant-loop-k
invariant-loop-k l = (j : ℕ) → j < l.k → is_kept l.temps (l.numbers.first + j) ≡ true
