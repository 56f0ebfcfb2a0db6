-- The declarations that are left make of the table so far what all make.
use Rattle.std.proofs.Common.{◌≡◌, [], drop}
use Rattle.sc_program.specs.Tables.{with_locals}
use Rattle.sc_program.proofs.globals.note_locals.Given as goal

abbrev pub invariant-loop-declared : goal.invariant-loop-declared
invariant-loop-declared l = with_locals (drop l.declared-index l.records) l.names ≡ with_locals l.records []
