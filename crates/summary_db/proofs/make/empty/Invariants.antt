use Rattle.std.proofs.Common.{◌≡◌, vec_len}
use Rattle.summary_db.proofs.make.empty.Given as goal

abbrev pub invariant-loop-turn : goal.invariant-loop-turn
invariant-loop-turn g l = vec_len l.room ≡ l._turn
