-- The names that are left, with what is set, say what all names say.
use Rattle.std.proofs.Common.{◌≡◌, ℕ, drop, None, slice_index_or, if◌then◌else◌}
use Rattle.sc_program.specs.Tables.{body_in}
use Rattle.file_tables.specs.Filled.{is_among}
use Rattle.file_tables.proofs.filling.set_bodies.Given as goal

abbrev pub invariant-loop-name : goal.invariant-loop-name
invariant-loop-name l =
    (n : ℕ)
    → (if is_among n (drop l.name-index l.names) then body_in l.numbers l.file n else slice_index_or l.table.items n None)
    ≡ (if is_among n l.fn.names then body_in l.fn.numbers l.fn.file n else slice_index_or l.fn.table.items n None)
