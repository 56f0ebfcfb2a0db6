use Rattle.layout_base.specs.Seen as laid
use Rattle.gate_paths.proofs.Gathering.{adds_out}
use Rattle.gate_paths.proofs.gathered.add_out.Goals as goal

pub returns-in_ok-push-in-Out-clause-ok : goal.returns-in_ok-push-in-Out-clause-ok
returns-in_ok-push-in-Out-clause-ok c =
    adds_out c.args.net.now c.follow_out.new.net (laid.layout_of c.args.layout.now.places.now) c.args.store.now.locations.items c.args.args.now c.args.spot
    c.args.x.now
    c.args.found.now.items c.push.new.self.items _ c.in_ok-at-in-Out.ensures.grown c.requires.found c.in_ok-push-in-Out.ensures.items c.as_slice.ensures
    c.spot_at.ensures c.in-Out.n c.in-Out.is c.in_ok-at-in-Out.ensures.ok
