use Rattle.layout_base.specs.Seen.{layout_of}
use Rattle.sc_world.specs.View.{type}
use Rattle.run_world.specs.Seen.{env}
use Rattle.run_values.specs.Seen.{want_of}
use Rattle.gate_elements.proofs.Indexed.{does_element}
use Rattle.gate_elements.proofs.elements.array_index.Goals as goal

pub returns-clause-ok : goal.returns-clause-ok
returns-clause-ok c =
    does_element (env c.args.here.now).source (layout_of c.args.layout.now.places.now) (env c.args.here.now).layout c.element.new.net c.end_where.new.net
    c.wanted.new.net c.args.store.now.locations.items (want_of c.args.want) (type c.args.t.now) c.args.array.now c.args.index.now
    c.in_ok-made.made.pointer.pairs.items c.in_ok-made.made.missing.at c.args.ends.now c.end_where.new.self c.in_ok-val.val c.requires.same
    c.in_ok-end_where.ensures.grown c.in_ok-val.ensures.grown c.in_ok-made.ensures.ok c.in_ok-end_where.ensures.ok c.in_ok-val.ensures.ok
