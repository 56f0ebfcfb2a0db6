use Rattle.std.proofs.Common.{◌≡◌, ℕ, ◌-◌, vec_len, false, slice_index_or}
use Rattle.file_tables.proofs.filling.grow_flags.Given as goal

abbrev pub invariant-loop-flags : goal.invariant-loop-flags
invariant-loop-flags l = (n : ℕ) → slice_index_or l.flags.items n false ≡ slice_index_or l.fn.flags.items n false

abbrev pub decreases-loop-flags : goal.decreases-loop-flags
decreases-loop-flags l = l.count - vec_len l.flags
