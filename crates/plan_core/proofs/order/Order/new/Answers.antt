-- Nothing is placed, met or waiting at first.
use Rattle.std.proofs.Common.{◌≡◌, false, length, replicate, rules, arith}
use Rattle.plan_core.proofs.Placing.{start_kept}
use Rattle.plan_core.proofs.order.Order.new.Goals as goal

pub returns : goal.returns
returns c =
    let placed : c.in_ok-placed.placed.items ≡ replicate c.len.result false = search rules in
    let met : c.in_ok-met.met.items ≡ replicate c.len-2.result 0 = search rules in
    start_kept c.args.plan.now.callees c.len.result c.len-2.result c.loop-function._function
    c.in_ok-placed.placed.items c.in_ok-met.met.items c.loop-function.waiting.items c.new-2.result.items
    (omega arith) (omega arith) (omega arith) placed met c.loop-function.invariant c.new-2.ensures.items
