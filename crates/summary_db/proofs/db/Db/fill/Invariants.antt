use Rattle.std.proofs.Common.{◌≡◌, ◌+◌, Some, length, vec_len}
use Rattle.std.specs.List.{All}
use Rattle.std.specs.Arc.{arc_value}
use Rattle.summary_db.specs.Places.{Anything, Fills, Rolled, slots_of, gives_of}
use Rattle.summary_db.specs.Told.{IsOutput}
use Rattle.summary_db.proofs.db.Db.fill.Given as goal

abbrev pub invariant-loop-k : goal.invariant-loop-k
invariant-loop-k g l =
    ((l.seat.table_id ≡ l.initial.seat.table_id) × (l.seat.id ≡ l.initial.seat.id) × (l.seat.me.0 ≡ l.initial.seat.me.0))
    × Rolled Anything (Fills l.self.rows (IsOutput g.W.Work.defined (Some l.self.table.shared.key.work.value)) l.function) (slots_of l.self.rows l.function) (length l.takes + l.k) l.seat.me.1
    × (vec_len l.list + l.k ≡ length (gives_of l.self.rows l.function))
    × All (λ row. arc_value row ≡ g.W.Work.defined l.self.table.shared.key.work.value l.function) l.list.items
