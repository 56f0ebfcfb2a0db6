use Rattle.std.proofs.Common.{refl, ap, arith, Ok}
use Rattle.run_world.specs.Seen.{world}
use Rattle.run_world.proofs.Slots.{flag_there, flag_past}
use Rattle.run_world.proofs.world.World.has_mark.Goals as goal

pub returns-then-at-len : goal.returns-then-at-len
unfolding world
returns-then-at-len c =
    ap (λ x. (Ok x, world c.args.self.now)) (flag_there c.args.self.now.slots.items c.args.at c.args.flag c.index.result.now c.has.result (omega (arith, c.if-at-len.true, c.len.ensures, c.args.self.now.slots.ok.0)) c.index.ensures c.has.ensures)

pub returns-else-at-len : goal.returns-else-at-len
unfolding world
returns-else-at-len c = ap (λ x. (Ok x, world c.args.self.now)) (flag_past c.args.self.now.slots.items c.args.at c.args.flag (omega (arith, c.if-at-len.false, c.len.ensures, c.args.self.now.slots.ok.0)))
