use Rattle.std.proofs.Common.{◌≡◌, ℕ, ◌-◌, vec_len, None, slice_index_or}
use Rattle.file_tables.proofs.filling.grow.Given as goal

abbrev pub invariant-loop-table : goal.invariant-loop-table
invariant-loop-table g l = (n : ℕ) → slice_index_or l.table.items n None ≡ slice_index_or l.fn.table.items n None

abbrev pub decreases-loop-table : goal.decreases-loop-table
decreases-loop-table g l = l.count - vec_len l.table
