use Rattle.std.proofs.Common.{ℕ, ◌<◌, length}
use Rattle.plan_core.specs.Graph.{callees}
use Rattle.plan_core.specs.Order.{IsRow}
use Rattle.plan_core.proofs.plan.Plan.has_rows.Given as goal

-- the rows passed are ascending lists of functions of the plan
abbrev pub invariant-loop-row : goal.invariant-loop-row
invariant-loop-row l = (f : ℕ) → f < l.row-index → IsRow (length l.self.callees) (callees l.self.callees f)
