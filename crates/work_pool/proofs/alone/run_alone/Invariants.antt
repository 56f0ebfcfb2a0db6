use Rattle.std.proofs.Common.{◌≡◌, length, vec_len}
use Rattle.std.specs.List.{sum_by}
use Rattle.plan_core.specs.Core.{NoneIsClaimed}
use Rattle.work_pool.specs.Outputs.{ArePublishedMade}
use Rattle.work_pool.proofs.Made.{weight}
use Rattle.work_pool.proofs.alone.run_alone.Given as goal

-- no function is claimed, and the outputs of those that are published were made
abbrev pub invariant-loop-function : goal.invariant-loop-function
invariant-loop-function g l =
    record {
      marks : length l.state ≡ length l.plan.callees;
      many : vec_len l.made ≡ length l.state;
      quiet : NoneIsClaimed l.state;
      made : ArePublishedMade (g.W.Work.defined l.work) l.state l.made.items;
    }

abbrev pub decreases-loop-function : goal.decreases-loop-function
decreases-loop-function g l = sum_by weight l.state
