-- The events so far.
use Rattle.std.proofs.Common.{◌≡◌, [], ◌∷◌, ◌++◌, take}
use Rattle.json.specs.Token.{begin_array}
use Rattle.json_places.specs.Arrays.{tokens_by}
use Rattle.verdict_json.specs.Runs.{event_value}
use Rattle.verdict_json.proofs.runs.put_events.Given as goal

abbrev pub invariant-loop-event : goal.invariant-loop-event
invariant-loop-event l =
    l.text ≡ (l.fn.text ++ begin_array ∷ []) ++ tokens_by (event_value l.check.program.now l.check.marks.now l.file) (take l.event-index l.events)
