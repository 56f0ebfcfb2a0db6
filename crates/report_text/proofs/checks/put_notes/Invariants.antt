-- The notes so far.
use Rattle.std.proofs.Common.{◌≡◌, ◌++◌, take}
use Rattle.std.specs.List.{flat_map}
use Rattle.report_text.specs.Reasons.{note_text}
use Rattle.report_text.proofs.checks.put_notes.Given as goal

abbrev pub invariant-loop-note : goal.invariant-loop-note
invariant-loop-note l = l.out.items ≡ l.fn.out.items ++ flat_map (note_text l.program) (take l.note-index l.notes)
