use Rattle.verdict_json.specs.Runs.{event_value}
use Rattle.json_places.proofs.Arrays.{array_behind}
use Rattle.verdict_json.proofs.runs.put_events.Goals as goal

pub returns : goal.returns
returns c =
    array_behind (event_value c.args.check.now.program.now c.args.check.now.marks.now c.args.file) c.args.events.now c.loop-event.event-index c.args.text.now c.loop-event.text _
    c.loop-event-test.false c.loop-event.invariant c.in_ok-end_array.ensures
