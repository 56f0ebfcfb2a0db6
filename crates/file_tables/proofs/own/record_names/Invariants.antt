use Rattle.std.proofs.Common.{◌≡◌, take}
use Rattle.file_tables.specs.Own.{names_of_records}
use Rattle.file_tables.proofs.own.record_names.Given as goal

abbrev pub invariant-loop-declared : goal.invariant-loop-declared
invariant-loop-declared l = l.names ≡ names_of_records (take l.declared-index l.records)
