-- The notes so far.
use Rattle.std.proofs.Common.{◌≡◌, [], ◌∷◌, ◌++◌, take}
use Rattle.json.specs.Token.{begin_array}
use Rattle.json_places.specs.Arrays.{tokens_by}
use Rattle.verdict_json.specs.Reasons.{skip_value}
use Rattle.verdict_json.proofs.reasons.put_notes.Given as goal

abbrev pub invariant-loop-note : goal.invariant-loop-note
invariant-loop-note l =
    l.text ≡ (l.fn.text ++ begin_array ∷ []) ++ tokens_by (skip_value l.check.program.now l.check.marks.now) (take l.note-index l.notes)
