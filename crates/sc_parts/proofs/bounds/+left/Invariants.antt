-- What the types that are left leave of the rest is what all leave of the room.
use Rattle.std.proofs.Common.{◌≡◌, map, drop}
use Rattle.sc_parts.specs.Bounds.{left, all_left}
use Rattle.sc_parts.proofs.bounds.+left.Given as goal

abbrev pub invariant-all_left-loop-t : goal.invariant-all_left-loop-t
invariant-all_left-loop-t l = all_left (map left (drop l.t-index l.t-items)) l.rest ≡ all_left (map left l.types) l.room
