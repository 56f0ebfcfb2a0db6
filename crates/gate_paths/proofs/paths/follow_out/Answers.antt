use Rattle.layout_base.specs.Seen as laid
use Rattle.gate_paths.proofs.Leading.{follows_out}
use Rattle.gate_paths.proofs.paths.follow_out.Goals as goal

pub returns-clause-ok : goal.returns-clause-ok
returns-clause-ok c =
    follows_out c.args.net.now c.usable.new.net c.go.new.net (laid.layout_of c.args.layout.now.places.now) c.args.store.now.locations.items c.args.args.now
    c.args.n
    c.in_ok-pointer.pointer.pairs.items c.in_ok-there.there.pairs.items c.in_ok-made.made.pairs.items c.in_ok-there.ensures.grown c.in_ok-made.ensures.grown
    c.in_ok-pointer.ensures c.in_ok-there.ensures.ok c.in_ok-made.ensures.ok
