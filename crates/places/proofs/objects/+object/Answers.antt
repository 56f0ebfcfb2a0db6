use Rattle.std.proofs.Common.{◌<◌, arith}
use Rattle.sc_world.specs.View.{type}
use Rattle.layout_base.specs.Seen.{ground_of, layout_of, chosen_of}
use Rattle.places.proofs.Steps.{object_elements}
use Rattle.places.proofs.objects.+object.Goals as goal

pub loop-k-init : goal.loop-k-init
loop-k-init t c =
    let some_levels : 0 < c.args.deep = omega arith in
    object_elements c.args.deep c.in-Elements.n c.in_ok-at.at c.root_or.result (ground_of c.args.ground.now) (chosen_of c.args.chosen) c.args.root
    (type c.args.t.now) (type c.in-Elements.element.now) c.args.origin (layout_of c.args.laid.now) (layout_of c.add.new.self)
    some_levels c.in_ok-at.ensures c.root_or.ensures c.in-Elements.ensures
