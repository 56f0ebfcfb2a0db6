-- What follows the part to which the levels that are left lead follows the whole way.
use Rattle.std.proofs.Common.{◌≡◌, length}
use Rattle.sc_lengths.specs.Ways.{next_way}
use Rattle.sc_lengths.proofs.ways.next_way.Given as goal

abbrev pub invariant-loop-number : goal.invariant-loop-number
invariant-loop-number l = next_way l.structs l.t l.levels.items ≡ next_way l.structs l.t l.fn.way

abbrev pub decreases-loop-number : goal.decreases-loop-number
decreases-loop-number l = length l.levels.items
