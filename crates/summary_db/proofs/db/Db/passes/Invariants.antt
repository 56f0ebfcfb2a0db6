use Rattle.std.proofs.Common.{◌≡◌, ◌+◌, Some, vec_len}
use Rattle.std.specs.List.{All}
use Rattle.summary_db.specs.Views.{fresh}
use Rattle.summary_db.specs.Passes.{rows_of, work_of, view, IsPassOf}
use Rattle.summary_db.proofs.db.Db.passes.Given as goal

abbrev pub invariant-loop-turn : goal.invariant-loop-turn
invariant-loop-turn g l =
    (l.seat.table_id ≡ l.initial.seat.table_id) × (l.seat.me ≡ l.initial.seat.me) × (vec_len l.all + 1 ≡ l._turn)
    × All (λ pass. IsPassOf l.self pass × (view pass ≡ fresh (rows_of l.self) (Some (work_of l.self)))) l.all.items
