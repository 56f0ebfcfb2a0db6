use Rattle.std.proofs.Common.{◌≡◌, ℕ, [], ◌++◌, drop, slice_index_or}
use Rattle.file_tables.specs.Own.{own_records}
use Rattle.file_tables.proofs.own.add_records.Given as goal

abbrev pub invariant-loop-declared : goal.invariant-loop-declared
invariant-loop-declared l =
    (f : ℕ)
    → slice_index_or l.lists.items f [] ++ own_records f (drop l.declared-index l.records)
    ≡ slice_index_or l.fn.lists.items f [] ++ own_records f l.fn.records
