use Rattle.std.proofs.Common.{◌≡◌, ℕ, ◌-◌, vec_len, [], slice_index_or}
use Rattle.file_tables.proofs.own.grow.Given as goal

abbrev pub invariant-loop-alloc : goal.invariant-loop-alloc
invariant-loop-alloc l = (f : ℕ) → slice_index_or l.lists.items f [] ≡ slice_index_or l.fn.lists.items f []

abbrev pub decreases-loop-alloc : goal.decreases-loop-alloc
decreases-loop-alloc l = l.count - vec_len l.lists
