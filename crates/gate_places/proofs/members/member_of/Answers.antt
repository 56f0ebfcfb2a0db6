use Rattle.layout_base.specs.Seen.{layout_of}
use Rattle.sc_world.specs.View.{type}
use Rattle.run_world.specs.Seen.{env}
use Rattle.run_values.specs.Seen.{want_of}
use Rattle.gate_places.proofs.Membering.{does_member}
use Rattle.gate_places.proofs.members.member_of.Goals as goal

pub returns-clause-ok : goal.returns-clause-ok
returns-clause-ok c =
    does_member (env c.args.here.now).source (layout_of c.args.layout.now.places.now) (env c.args.here.now).layout c.part.new.net c.wanted.new.net
    c.args.store.now.locations.items c.args.ends.now (want_of c.args.want) (type c.args.t.now) c.args.name c.args.object.now c.in_ok-made.made.pairs.items
    c.in_ok-val.val c.requires.same c.in_ok-val.ensures.grown c.in_ok-made.ensures.ok c.in_ok-val.ensures.ok
