-- The entries so far.
use Rattle.std.proofs.Common.{◌≡◌, map}
use Rattle.std.specs.List.{range_with_len}
use Rattle.plan_core.specs.Graph.{reaches_before}
use Rattle.call_graph.proofs.tables.first_row.Given as goal

abbrev pub invariant-loop-callee : goal.invariant-loop-callee
invariant-loop-callee l = l.row ≡ map (reaches_before l.rows 0 l.caller) (range_with_len 0 l.callee)
