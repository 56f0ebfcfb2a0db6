use Rattle.std.proofs.Common.{◌≡◌, ◌≤◌, length}
use Rattle.reach_net.specs.Walks.{rows_of, EachWide, rows_top}
use Rattle.gate_tests.proofs.walks.matrix.Given as goal

-- the rows so far
abbrev pub invariant-loop-i : goal.invariant-loop-i
invariant-loop-i l = record {
  count : length l.rows.items ≡ l.i;
  wide : EachWide (length l.targets) (rows_of l.rows.items);
  below : rows_top (rows_of l.rows.items) ≤ length l.net;
}
