use Rattle.std.proofs.Common.{refl, ap, arith, Ok}
use Rattle.run_world.specs.Seen.{world}
use Rattle.run_world.proofs.Slots.{put_there, put_past}
use Rattle.run_world.proofs.world.World.put.Goals as goal

pub returns-then-at-len-clause-value : goal.returns-then-at-len-clause-value
unfolding world
returns-then-at-len-clause-value c =
    rw (put_there c.args.self.now.slots.items c.args.at _ c.index-was.result.now record { value = c.overwritten.result; marks = c.index-was.result.now.marks } (omega (arith, c.if-at-len.true, c.len.ensures, c.args.self.now.slots.ok.0)) c.index-was.ensures c.overwritten.ensures refl)
    refl

pub returns-else-at-len-clause-value : goal.returns-else-at-len-clause-value
unfolding world
returns-else-at-len-clause-value c = rw (put_past c.args.self.now.slots.items c.args.at _ (omega (arith, c.if-at-len.false, c.len.ensures, c.args.self.now.slots.ok.0))) refl
