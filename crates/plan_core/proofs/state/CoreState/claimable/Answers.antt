-- At the end of the loop no function of the plan may be claimed.
use Rattle.std.proofs.Common.{length, ap, arith}
use Rattle.plan_core.proofs.Progress.{some_claimable}
use Rattle.plan_core.proofs.state.CoreState.claimable.Goals as goal

pub returns-clause-some : goal.returns-clause-some
returns-clause-some c plan quiet some =
    absurd
    (some_claimable _ _ plan.acyclic quiet some
    (λ f inside. c.loop-function.invariant f (omega (arith, inside, ap length c.self.view_is))))
