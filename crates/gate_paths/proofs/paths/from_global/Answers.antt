use Rattle.layout_base.specs.Seen as laid
use Rattle.gate_paths.proofs.Leading.{from_global}
use Rattle.gate_paths.proofs.paths.from_global.Goals as goal

pub returns-clause-ok : goal.returns-clause-ok
returns-clause-ok c =
    from_global c.args.net.now c.follow.new.net (laid.layout_of c.args.layout.now.places.now) c.args.store.now.locations.items c.args.n c.location_of.result
    c.in_ok-target.target
    c.args.steps.now c.one-begin.result.pairs.items c.in_ok-made.made.pairs.items c.in_ok-made.ensures.grown c.location_of.ensures c.in_ok-target.ensures
    c.one-begin.ensures.points c.in_ok-made.ensures.ok
