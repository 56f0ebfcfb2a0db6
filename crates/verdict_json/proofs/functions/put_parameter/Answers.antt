use Rattle.std.proofs.Common.{refl, append_assoc}
use Rattle.verdict_json.specs.Functions.{parameter_value}
use Rattle.verdict_json.proofs.functions.put_parameter.Goals as goal

pub returns : goal.returns
unfolding parameter_value
returns c =
    simp (
      append_assoc,
      c.in_ok-end_object.ensures,
      c.in_ok-word_member-2.ensures,
      c.in_ok-word_member.ensures,
      c.in_ok-begin_object.ensures,
      c.name_text.ensures,
      c.type_words.ensures,
    ) refl
