use Rattle.std.proofs.Common.{refl, ap, arith, Ok}
use Rattle.run_world.specs.Seen.{world}
use Rattle.run_world.proofs.Slots.{cell_there, cell_past}
use Rattle.run_world.proofs.world.World.load.Goals as goal

pub returns-then-at-len : goal.returns-then-at-len
unfolding world
returns-then-at-len c = ap (λ x. (Ok x, world c.args.self.now)) (cell_there c.args.self.now.slots.items c.args.at c.index.result.now (omega (arith, c.if-at-len.true, c.len.ensures, c.args.self.now.slots.ok.0)) c.index.ensures)

pub returns-else-at-len : goal.returns-else-at-len
unfolding world
returns-else-at-len c = ap (λ x. (Ok x, world c.args.self.now)) (cell_past c.args.self.now.slots.items c.args.at (omega (arith, c.if-at-len.false, c.len.ensures, c.args.self.now.slots.ok.0)))
