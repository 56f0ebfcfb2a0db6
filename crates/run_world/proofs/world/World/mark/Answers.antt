use Rattle.std.proofs.Common.{refl, ap, arith, Ok}
use Rattle.run_world.specs.Seen.{world}
use Rattle.run_world.proofs.Slots.{mark_there, mark_past}
use Rattle.run_world.proofs.world.World.mark.Goals as goal

pub returns-then-at-len-clause-mark : goal.returns-then-at-len-clause-mark
unfolding world
returns-then-at-len-clause-mark c =
    rw (mark_there c.args.self.now.slots.items c.args.at c.args.flag c.index-was.result.now record { value = c.index-was.result.now.value; marks = c.with.result } (omega (arith, c.if-at-len.true, c.len.ensures, c.args.self.now.slots.ok.0)) c.index-was.ensures c.with.ensures refl)
    refl

pub returns-else-at-len-clause-mark : goal.returns-else-at-len-clause-mark
unfolding world
returns-else-at-len-clause-mark c = rw (mark_past c.args.self.now.slots.items c.args.at c.args.flag (omega (arith, c.if-at-len.false, c.len.ensures, c.args.self.now.slots.ok.0))) refl
