-- From the part at hand the levels that are left lead where all lead.
use Rattle.std.proofs.Common.{◌≡◌, drop}
use Rattle.sc_lengths.specs.Ways.{part_at}
use Rattle.sc_lengths.proofs.ways.part_at.Given as goal

abbrev pub invariant-loop-number : goal.invariant-loop-number
invariant-loop-number l = part_at l.structs l.at (drop l.number-index l.way) ≡ part_at l.structs l.t l.way
