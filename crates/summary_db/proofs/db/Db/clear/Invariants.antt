use Rattle.std.proofs.Common.{◌≡◌, None}
use Rattle.summary_db.specs.Places.{Anything, Rolled, slots_of}
use Rattle.summary_db.proofs.db.Db.clear.Given as goal

abbrev pub invariant-loop-k : goal.invariant-loop-k
invariant-loop-k g l =
    ((l.seat.table_id ≡ l.initial.seat.table_id) × (l.seat.id ≡ l.initial.seat.id) × (l.seat.me.0 ≡ l.initial.seat.me.0))
    × Rolled Anything (λ i y. y ≡ None) (slots_of l.self.rows l.function) l.k l.seat.me.1
