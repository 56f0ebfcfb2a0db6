use Rattle.std.proofs.Common.{◌≡◌, drop}
use Rattle.sc_world.specs.Occurrences.{param_spots}
use Rattle.layout_base.specs.Seen.{layout_of}
use Rattle.places.proofs.known.param_spots.Given as goal

abbrev pub invariant-loop-x : goal.invariant-loop-x
invariant-loop-x l =
    param_spots (drop l.x-index l.items) (layout_of l.laid)
    ≡ param_spots l.fn.items (layout_of l.fn.laid)
