use Rattle.std.proofs.Common.{refl, append_assoc}
use Rattle.verdict_json.specs.Reasons.{limit_value}
use Rattle.verdict_json.proofs.reasons.put_limit.Goals as goal

pub returns : goal.returns
unfolding limit_value
returns c =
    simp (
      append_assoc,
      c.in_ok-end_object.ensures,
      c.in_ok-count_member.ensures,
      c.in_ok-bytes_member.ensures,
      c.in_ok-word_member.ensures,
      c.in_ok-begin_object.ensures,
    ) refl
