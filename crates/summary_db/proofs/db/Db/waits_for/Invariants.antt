use Rattle.std.proofs.Common.{◌≡◌, ℕ, ◌<◌, true, get_or}
use Rattle.plan_core.specs.Graph.{callees}
use Rattle.summary_db.specs.Views.{member, Looks}
use Rattle.summary_db.specs.Passes.{rows_of, view, IsPassOf}
use Rattle.summary_db.proofs.db.Db.waits_for.Given as goal

abbrev pub invariant-loop-callee : goal.invariant-loop-callee
invariant-loop-callee g l =
    IsPassOf l.self l.pass
    × Looks (view l.initial.pass) (view l.pass)
    × ((k : ℕ) → k < l.callee-index → member (get_or (callees (rows_of l.self) l.function) k 0) (view l.pass).seen ≡ true)
