use Rattle.std.proofs.Common.{subst}
use Rattle.run_world.specs.Seen as seen
use Rattle.gate_inits.specs.Inits.{ClearsCells}
use Rattle.gate_inits.proofs.CellsSet.{clears}
use Rattle.gate_inits.proofs.filling.clear.Goals as goal

pub returns-clause-ok : goal.returns-clause-ok
returns-clause-ok c =
    clears _ _ _ _ c.args.ends.now c.args.at c.in_ok-object.object.cells.items _ _ c.requires.same c.in_ok-object.ensures
    (subst (λ ts. ClearsCells (seen.env c.args.here.now).source (seen.env c.args.here.now).layout c.clear_cells.new.net c.args.ends.now ts c.args.stored.now.locations.items c.clear_cells.new.stored.locations.items)
    c.as_slice.ensures.value c.in_ok-clear_cells.ensures.ok)
