use Rattle.std.proofs.Common.{refl, append_assoc}
use Rattle.verdict_json.proofs.runs.end_call.Goals as goal

pub returns : goal.returns
returns c =
    simp (
      append_assoc,
      c.in_ok-end_object.ensures,
      c.in_ok-put_callee.ensures,
      c.in_ok-key.ensures,
      c.in_ok-word_member.ensures,
    ) refl
