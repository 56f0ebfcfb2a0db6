use Rattle.std.proofs.Common.{refl, append_assoc}
use Rattle.verdict_json.specs.Rows.{parameter_head}
use Rattle.verdict_json.proofs.rows.begin_parameter.Goals as goal

pub returns : goal.returns
unfolding parameter_head
returns c =
    simp (
      append_assoc,
      c.in_ok-word_member-2.ensures,
      c.in_ok-count_member.ensures,
      c.in_ok-word_member.ensures,
      c.in_ok-begin_object.ensures,
      c.from.ensures,
      c.param_text.ensures,
    ) refl
