-- The numbers that are left make of the structs so far what all make of all.
use Rattle.std.proofs.Common.{◌≡◌, drop}
use Rattle.sc_files.specs.Notes.{incomplete_at}
use Rattle.sc_files.proofs.notes.incomplete_at.Given as goal

abbrev pub invariant-loop-number : goal.invariant-loop-number
invariant-loop-number l = incomplete_at (drop l.number-index l.numbers) l.structs ≡ incomplete_at l.numbers l.initial.structs
