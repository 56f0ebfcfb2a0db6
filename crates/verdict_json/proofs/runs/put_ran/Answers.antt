use Rattle.std.proofs.Common.{refl, append_assoc}
use Rattle.verdict_json.specs.Runs.{ran_value}
use Rattle.verdict_json.proofs.runs.put_ran.Goals as goal

pub returns : goal.returns
unfolding ran_value
returns c =
    simp (
      append_assoc,
      c.in_ok-end_told.ensures,
      c.in_ok-put_events.ensures,
      c.in_ok-key.ensures,
      c.in_ok-bytes_member.ensures,
      c.in_ok-put_choice_member.ensures,
      c.in_ok-begin_object.ensures,
    ) refl
