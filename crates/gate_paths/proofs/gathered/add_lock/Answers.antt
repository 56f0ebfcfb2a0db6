use Rattle.layout_base.specs.Seen as laid
use Rattle.gate_paths.proofs.Gathering.{adds_lock}
use Rattle.gate_paths.proofs.gathered.add_lock.Goals as goal

pub returns-in_ok-push-in-Lock-clause-ok : goal.returns-in_ok-push-in-Lock-clause-ok
returns-in_ok-push-in-Lock-clause-ok c =
    adds_lock c.args.net.now c.follow_path.new.net (laid.layout_of c.args.layout.now.places.now) c.args.store.now.locations.items c.args.args.now c.args.spot
    c.args.x.now
    c.args.found.now.items c.push.new.self.items _ c.in_ok-at-in-Lock.ensures.grown c.requires.found c.in_ok-push-in-Lock.ensures.items c.as_slice.ensures
    c.spot_at.ensures c.in-Lock.path c.in-Lock.is c.in_ok-at-in-Lock.ensures.ok
