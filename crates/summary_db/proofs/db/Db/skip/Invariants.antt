use Rattle.std.proofs.Common.{◌≡◌, Some}
use Rattle.summary_db.specs.Places.{Anything, Fills, Rolled, slots_of}
use Rattle.summary_db.specs.Told.{IsOutput}
use Rattle.summary_db.proofs.db.Db.skip.Given as goal

abbrev pub invariant-loop-k : goal.invariant-loop-k
invariant-loop-k g l =
    (l.seat.table_id ≡ l.initial.seat.table_id) × (l.seat.id ≡ l.initial.seat.id) × (l.seat.me.0 ≡ l.initial.seat.me.0)
    × Rolled Anything (Fills l.self.rows (IsOutput g.W.Work.defined (Some l.self.table.shared.key.work.value)) l.function) (slots_of l.self.rows l.function) l._k l.seat.me.1
