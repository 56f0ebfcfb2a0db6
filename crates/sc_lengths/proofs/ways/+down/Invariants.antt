-- It goes at most so many levels down.
use Rattle.sc_lengths.proofs.ways.+down.Given as goal

abbrev pub decreases-down : goal.decreases-down
decreases-down l = l.deep
