use Rattle.std.proofs.Common.{◌+◌, ◌-◌, vec_len}
use Rattle.sat_clauses.proofs.watch.note_at.Given as goal

abbrev pub decreases-loop-pairs : goal.decreases-loop-pairs
decreases-loop-pairs l = l.i + 1 - vec_len l.pairs
