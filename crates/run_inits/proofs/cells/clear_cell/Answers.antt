use Rattle.std.proofs.Common.{◌≡◌, sym, ◌∙◌}
use Rattle.run_world.specs.Seen.{cell, world, env}
use Rattle.run_inits.proofs.CellLaws.{cleared_in, cleared_out}
use Rattle.run_inits.proofs.cells.clear_cell.Goals as goal

pub returns-then-belongs-clause-cleared : goal.returns-then-belongs-clause-cleared
unfolding env
returns-then-belongs-clause-cleared c =
    cleared_in (env c.args.here.now) c.args.at c.args.k (cell c.blank_at.result) (world c.args.world.now)
    (world c.store.new.self) c.requires.low
    (sym c.belongs.ensures ∙ c.if-belongs.true) c.blank_at.ensures c.store.ensures.value

pub returns-else-belongs-clause-cleared : goal.returns-else-belongs-clause-cleared
unfolding env
returns-else-belongs-clause-cleared c =
    cleared_out (env c.args.here.now) c.args.at c.args.k (world c.args.world.now) c.requires.low
    (sym c.belongs.ensures ∙ c.if-belongs.false)
