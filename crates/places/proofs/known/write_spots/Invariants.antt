use Rattle.std.proofs.Common.{◌≡◌, drop}
use Rattle.sc_world.specs.Occurrences.{write_spots}
use Rattle.layout_base.specs.Seen.{layout_of}
use Rattle.places.proofs.known.write_spots.Given as goal

abbrev pub invariant-loop-x : goal.invariant-loop-x
invariant-loop-x l =
    write_spots l.items l.k (drop l.x-index l.writes) (layout_of l.laid)
    ≡ write_spots l.fn.items l.fn.k l.fn.writes (layout_of l.fn.laid)
