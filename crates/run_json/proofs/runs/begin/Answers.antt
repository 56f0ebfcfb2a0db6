use Rattle.std.proofs.Common.{refl, append_assoc}
use Rattle.run_json.proofs.runs.begin.Goals as goal

pub returns : goal.returns
returns c =
    simp (
      append_assoc,
      c.in_ok-count_member.ensures,
      c.in_ok-word_member.ensures,
      c.in_ok-begin_object.ensures,
    ) refl
