use Rattle.std.proofs.Common.{◌≡◌, [], map, drop, arith}
use Rattle.std.proofs.lemmas.Grind.{common_steps}
use Rattle.sc_typed.specs.Types.{composition, with_each}
use Rattle.sc_types.proofs.Lists.{with_each_end}
use Rattle.sc_types.proofs.agreement.+compose.Goals as goal

pub composite_types-returns : goal.composite_types-returns
composite_types-returns t c =
    let e : with_each (map composition (drop c.loop-i.i c.args.a.now)) (drop c.loop-i.i c.args.b.now) ≡ [] =
    with_each_end composition c.args.a.now c.args.b.now c.loop-i.i (omega arith) in
    let h = (rw e at c.loop-i.invariant) in
    grind (arith, common_steps)
