use Rattle.std.proofs.Common.{◌≤◌, length, map, arith}
use Rattle.run_world.specs.Seen.{cell, world, env}
use Rattle.run_inits.proofs.CellLaws.{loaded_all}
use Rattle.run_inits.proofs.cells.load_cells.Goals as goal

pub returns-clause-loaded : goal.returns-clause-loaded
unfolding env
returns-clause-loaded c =
    let past : length (env c.args.here.now).layout.locations ≤ c.loop-k.k = omega arith in
    loaded_all (env c.args.here.now).layout c.args.at c.loop-k.k (world c.args.world.now)
    (map cell c.loop-k.values.items) past c.loop-k.invariant.loaded
