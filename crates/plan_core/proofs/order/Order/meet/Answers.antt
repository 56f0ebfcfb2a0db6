-- The callees are functions of the plan.
use Rattle.std.proofs.Common.{◌<◌, get_or, sym, subst}
use Rattle.plan_core.proofs.Placing.{callee_inside}
use Rattle.plan_core.proofs.order.Order.meet.Goals as goal

pub first_open-met-requires-clause-inside : goal.first_open-met-requires-clause-inside
first_open-met-requires-clause-inside c k low =
    let rows = c.args.plan.now.callees in
    subst (λ n. get_or c.callees_of.result.now k 0 < n) (sym c.requires.kept.placed_many)
    (callee_inside rows c.callees_of.result.now c.args.function k c.requires.graph c.callees_of.ensures low).1
