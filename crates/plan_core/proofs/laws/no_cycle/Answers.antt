-- A walk over kept edges that comes back leads forward at each step.
use Rattle.plan_core.proofs.Plans.{plan_of_graph}
use Rattle.plan_core.proofs.laws.no_cycle.Goals as goal

pub returns : goal.returns
returns c = plan_of_graph
