use Rattle.sc_world.specs.View.{type}
use Rattle.run_world.specs.Seen.{env}
use Rattle.run_values.specs.Seen.{want_of}
use Rattle.gate_places.proofs.Placing.{find_place}
use Rattle.gate_places.proofs.places.place_at.Goals as goal

pub returns : goal.returns
returns c =
    find_place (env c.args.here.now).source (env c.args.here.now).layout c.args.net.now c.args.store.now.locations.items (want_of c.args.want) (type c.args.t.now)
    c.args.pointer.now.pairs.items c.in_ok-place.place c.requires.reads c.requires.pointer c.in_ok-place.ensures
