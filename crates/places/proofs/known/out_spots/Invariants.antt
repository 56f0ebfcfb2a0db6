use Rattle.std.proofs.Common.{◌≡◌, drop}
use Rattle.sc_world.specs.Occurrences.{out_spots, known_callee}
use Rattle.layout_base.specs.Seen.{ground_of, layout_of}
use Rattle.places.proofs.known.out_spots.Given as goal

abbrev pub invariant-loop-x : goal.invariant-loop-x
invariant-loop-x l =
    out_spots (ground_of l.ground) (known_callee (ground_of l.ground).source l.place) l.k (drop l.x-index l.items) (layout_of l.laid)
    ≡ out_spots (ground_of l.fn.ground) (known_callee (ground_of l.fn.ground).source l.fn.place) l.fn.k l.fn.items (layout_of l.fn.laid)
