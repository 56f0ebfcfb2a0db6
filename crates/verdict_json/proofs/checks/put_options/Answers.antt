use Rattle.std.proofs.Common.{refl, append_assoc}
use Rattle.verdict_json.specs.Checks.{options_value}
use Rattle.verdict_json.proofs.checks.put_options.Goals as goal

pub returns : goal.returns
unfolding options_value
returns c =
    simp (
      append_assoc,
      c.in_ok-end_object.ensures,
      c.in_ok-put_states.ensures,
      c.in_ok-key.ensures,
      c.in_ok-word_member-2.ensures,
      c.in_ok-word_member.ensures,
      c.in_ok-count_member-2.ensures,
      c.in_ok-count_member.ensures,
      c.in_ok-begin_object.ensures,
      c.from.ensures,
      c.from-2.ensures,
      c.model_word.ensures,
      c.machine_word.ensures,
    ) refl
