-- The names that are left, with what is set, say what all names say.
use Rattle.std.proofs.Common.{◌≡◌, ℕ, drop, None, slice_index_or, if◌then◌else◌}
use Rattle.sc_program.specs.Types.{type_of}
use Rattle.file_tables.specs.Filled.{is_among}
use Rattle.file_tables.proofs.filling.set_types.Given as goal

abbrev pub invariant-loop-name : goal.invariant-loop-name
invariant-loop-name l =
    (n : ℕ)
    → (if is_among n (drop l.name-index l.names) then type_of l.types l.file n else slice_index_or l.table.items n None)
    ≡ (if is_among n l.fn.names then type_of l.fn.types l.fn.file n else slice_index_or l.fn.table.items n None)
