-- The names that are left, with what is set, say what all names say.
use Rattle.std.proofs.Common.{◌≡◌, ℕ, drop, false, slice_index_or, if◌then◌else◌}
use Rattle.sc_program.specs.Tables.{local_in}
use Rattle.file_tables.specs.Filled.{is_among}
use Rattle.file_tables.proofs.filling.set_locals.Given as goal

abbrev pub invariant-loop-name : goal.invariant-loop-name
invariant-loop-name l =
    (n : ℕ)
    → (if is_among n (drop l.name-index l.names) then local_in l.local l.file n else slice_index_or l.flags.items n false)
    ≡ (if is_among n l.fn.names then local_in l.fn.local l.fn.file n else slice_index_or l.fn.flags.items n false)
