use Rattle.verdict_json.specs.Reasons.{skip_value}
use Rattle.json_places.proofs.Arrays.{array_behind}
use Rattle.verdict_json.proofs.reasons.put_notes.Goals as goal

pub returns : goal.returns
returns c =
    array_behind (skip_value c.args.check.now.program.now c.args.check.now.marks.now) c.args.notes.now c.loop-note.note-index c.args.text.now c.loop-note.text _
    c.loop-note-test.false c.loop-note.invariant c.in_ok-end_array.ensures
