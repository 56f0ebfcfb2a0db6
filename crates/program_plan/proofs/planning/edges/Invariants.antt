use Rattle.std.proofs.Common.{◌≡◌, ◌+◌, drop}
use Rattle.program_plan.specs.Planned.{edges}
use Rattle.program_plan.proofs.planning.edges.Given as goal

abbrev pub invariant-loop-row : goal.invariant-loop-row
invariant-loop-row l = l.count + edges (drop l.row-index l.rows) ≡ edges l.fn.rows
