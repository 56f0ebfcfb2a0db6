-- The rows so far.
use Rattle.std.proofs.Common.{◌≡◌, ◌+◌, map}
use Rattle.std.specs.List.{range_with_len}
use Rattle.plan_core.specs.Graph.{functions, reaches_before}
use Rattle.call_graph.proofs.tables.next_table.Given as goal

abbrev pub invariant-loop-caller : goal.invariant-loop-caller
invariant-loop-caller l =
    l.next ≡ map (λ f. map (reaches_before l.rows (l.through + 1) f) (functions l.rows)) (range_with_len 0 l.caller)
