use Rattle.std.proofs.Common.{◌≡◌, [], replicate}
use Rattle.summary_db.specs.Lays.{lists}
use Rattle.summary_db.proofs.lay.none.Given as goal

abbrev pub invariant-loop-turn : goal.invariant-loop-turn
invariant-loop-turn l = lists l.rows ≡ replicate l._turn []
