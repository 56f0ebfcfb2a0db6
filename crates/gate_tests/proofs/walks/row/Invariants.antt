use Rattle.std.proofs.Common.{◌≡◌, ◌≤◌, length}
use Rattle.reach_net.specs.Walks.{gates_top}
use Rattle.gate_tests.proofs.walks.row.Given as goal

-- the gates so far
abbrev pub invariant-loop-i : goal.invariant-loop-i
invariant-loop-i l = record {
  wide : length l.gates.items ≡ l.i;
  below : gates_top l.gates.items ≤ length l.net;
}
