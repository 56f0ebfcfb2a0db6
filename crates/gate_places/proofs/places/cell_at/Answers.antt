use Rattle.sc_world.specs.View.{type}
use Rattle.run_world.specs.Seen.{env}
use Rattle.run_values.specs.Seen.{want_of}
use Rattle.gate_places.proofs.Placing.{find_cell}
use Rattle.gate_places.proofs.places.cell_at.Goals as goal

pub returns-clause-ok : goal.returns-clause-ok
returns-clause-ok c =
    find_cell (env c.args.here.now).source (env c.args.here.now).layout c.load.new.net c.args.store.now.locations.items (want_of c.args.want) (type c.args.t.now)
    c.args.pointer.now.pairs.items c.cell_width-width.result c.in_ok-val.val c.requires.reads c.requires.scalar c.requires.laid c.cell_width-width.ensures
    c.in_ok-val.ensures.ok
