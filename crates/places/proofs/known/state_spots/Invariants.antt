use Rattle.std.proofs.Common.{◌≡◌, drop}
use Rattle.sc_world.specs.Occurrences.{state_spots}
use Rattle.layout_base.specs.Seen.{ground_of, layout_of}
use Rattle.places.proofs.known.state_spots.Given as goal

abbrev pub invariant-loop-x : goal.invariant-loop-x
invariant-loop-x l =
    state_spots (ground_of l.ground).source (drop l.x-index l.items) (layout_of l.laid)
    ≡ state_spots (ground_of l.fn.ground).source l.fn.items (layout_of l.fn.laid)
