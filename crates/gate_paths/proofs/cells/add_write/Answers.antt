use Rattle.std.proofs.Common.{refl}
use Rattle.layout_base.specs.Seen as laid
use Rattle.gate_paths.proofs.Writing.{adds_write}
use Rattle.gate_paths.proofs.cells.add_write.Goals as goal

pub returns-in_ok-push-in-Some-clause-ok : goal.returns-in_ok-push-in-Some-clause-ok
returns-in_ok-push-in-Some-clause-ok c =
    adds_write c.args.net.now c.follow_path.new.net (laid.layout_of c.args.layout.now.places.now) c.args.store.now.locations.items c.args.args.now c.args.spot
    c.in-Some.k
    c.args.x.now c.args.found.now.items c.push.new.self.items _ c.in-Some.is c.in_ok-at-in-Some.ensures.grown c.requires.found
    c.in_ok-push-in-Some.ensures.items refl
    c.spot_at.ensures c.in_ok-at-in-Some.ensures.ok
