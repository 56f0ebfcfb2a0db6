use Rattle.std.proofs.Common.{refl, append_assoc}
use Rattle.choice_json.specs.Calls.{parameter_members}
use Rattle.choice_json.proofs.calls.put_parameter.Goals as goal

pub returns : goal.returns
unfolding parameter_members
returns c more =
    simp (
      append_assoc,
      c.in_ok-word_member-2.ensures,
      c.in_ok-count_member.ensures,
      c.in_ok-word_member.ensures,
      c.from.ensures,
      c.param_text.ensures,
    ) refl
