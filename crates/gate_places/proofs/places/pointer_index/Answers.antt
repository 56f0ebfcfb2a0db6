use Rattle.sc_world.specs.View.{type}
use Rattle.run_world.specs.Seen.{env}
use Rattle.run_values.specs.Seen.{want_of}
use Rattle.gate_places.proofs.Indexing.{does_index}
use Rattle.gate_places.proofs.places.pointer_index.Goals as goal

pub returns-clause-ok : goal.returns-clause-ok
unfolding env
returns-clause-ok c =
    does_index (env c.args.here.now).source (env c.args.here.now).layout c.dereference.new.net c.is_zero.new.net c.unless.new.net c.wanted.new.net
    c.args.store.now.locations.items (want_of c.args.want) (type c.args.t.now) c.args.pointer.now.pairs.items c.args.index.now c.in_ok-zero.zero.at c.args.ends.now
    c.dereference.new.ends c.unless.new.ends c.in_ok-val.val c.in_ok-zero.ensures.grown c.in_ok-unless.ensures.grown c.in_ok-val.ensures.grown
    c.in_ok-dereference.ensures.ok c.in_ok-zero.ensures.ok c.in_ok-unless.ensures.ok c.in_ok-val.ensures.ok
