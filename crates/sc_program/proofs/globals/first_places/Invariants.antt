-- The declarations that are left make of the table so far what all make.
use Rattle.std.proofs.Common.{◌≡◌, [], drop}
use Rattle.sc_program.specs.Globals.{any_record}
use Rattle.sc_program.specs.Tables.{local_in, with_records}
use Rattle.sc_program.proofs.globals.first_places.Given as goal

abbrev pub invariant-loop-k : goal.invariant-loop-k
invariant-loop-k l = with_records any_record (local_in l.local) l.k (drop l.k l.records) l.places ≡ with_records any_record (local_in l.local) 0 l.records []
