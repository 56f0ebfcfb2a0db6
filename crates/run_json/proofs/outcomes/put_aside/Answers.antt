use Rattle.std.proofs.Common.{refl, append_assoc}
use Rattle.run_json.specs.Outcomes.{aside_value}
use Rattle.run_json.proofs.outcomes.put_aside.Goals as goal

pub returns : goal.returns
unfolding aside_value
returns c =
    simp (
      append_assoc,
      c.in_ok-end_object.ensures,
      c.in_ok-word_member.ensures,
      c.in_ok-begin_object.ensures,
      c.reason_word.ensures,
    ) refl
