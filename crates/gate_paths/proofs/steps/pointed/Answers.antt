use Rattle.layout_base.specs.Seen as laid
use Rattle.gate_paths.proofs.Following.{is_pointed}
use Rattle.gate_paths.proofs.steps.pointed.Goals as goal

pub returns-clause-ok : goal.returns-clause-ok
returns-clause-ok c =
    is_pointed c.go.new.net c.load.new.net c.usable.new.net (laid.layout_of c.args.layout.now.places.now) c.args.store.now.locations.items
    c.args.from.now.pairs.items c.in_ok-cells.cells.pairs.items c.in_ok-pointer.pointer.pairs.items c.in_ok-made.made.pairs.items c.in_ok-val.val
    c.in_ok-val.ensures.grown c.in_ok-made.ensures.grown c.in_ok-cells.ensures.ok c.in_ok-val.ensures.ok c.in_ok-pointer.ensures c.in_ok-made.ensures.ok
