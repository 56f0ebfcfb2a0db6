use Rattle.layout_base.specs.Seen.{layout_of}
use Rattle.sc_world.specs.View.{type}
use Rattle.run_world.specs.Seen.{env}
use Rattle.run_values.specs.Seen.{want_of}
use Rattle.tr_expr.proofs.Naming.{does_name}
use Rattle.tr_expr.proofs.names.named.Goals as goal

pub returns-clause-ok : goal.returns-clause-ok
returns-clause-ok c =
    does_name (env c.args.here.now).source (layout_of c.args.layout.now.places.now) (env c.args.here.now).layout c.args.net.now c.wanted.new.net
    c.args.store.now.locations.items (want_of c.args.want) (type c.args.t.now) c.args.origin c.place_of-place.result.pairs.items c.in_ok-val.val c.requires.same
    c.in_ok-val.ensures.grown c.place_of-place.ensures c.in_ok-val.ensures.ok
