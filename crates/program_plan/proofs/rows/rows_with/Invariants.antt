-- The functions so far.
use Rattle.std.proofs.Common.{◌≡◌, map}
use Rattle.std.specs.List.{range_with_len}
use Rattle.program_plan.specs.Graphs.{row_with}
use Rattle.program_plan.proofs.rows.rows_with.Given as goal

abbrev pub invariant-loop-number : goal.invariant-loop-number
invariant-loop-number l = l.rows ≡ map (row_with l.program l.machine l.tries) (range_with_len 0 l.number)
