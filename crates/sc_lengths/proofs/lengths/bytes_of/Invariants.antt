-- The bytes of the literals so far.
use Rattle.std.proofs.Common.{◌≡◌, take}
use Rattle.sc_parts.specs.Names.{bytes_of}
use Rattle.sc_lengths.proofs.lengths.bytes_of.Given as goal

abbrev pub invariant-loop-s : goal.invariant-loop-s
invariant-loop-s l = l.bytes ≡ bytes_of (take l.s-index l.literals)
