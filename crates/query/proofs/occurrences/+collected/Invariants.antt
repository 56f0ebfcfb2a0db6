use Rattle.std.proofs.Common.{◌-◌, length}
use Rattle.query.proofs.occurrences.+collected.Given as goal

-- the bits that are left
abbrev pub decreases-collected : goal.decreases-collected
decreases-collected g l = length l.bits.now - l.place
