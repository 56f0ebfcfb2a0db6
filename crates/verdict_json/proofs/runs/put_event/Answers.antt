use Rattle.std.proofs.Common.{refl, append_assoc}
use Rattle.verdict_json.specs.Runs.{event_value}
use Rattle.verdict_json.proofs.runs.put_event.Goals as goal

pub returns : goal.returns
unfolding event_value
returns c =
    simp (
      append_assoc,
      c.in_ok-end_event.ensures,
      c.in_ok-put_place.ensures,
      c.in_ok-key.ensures,
      c.in_ok-begin_object.ensures,
    ) refl
