use Rattle.std.proofs.Common.{refl, append_assoc}
use Rattle.verdict_json.specs.Rows.{end_value}
use Rattle.verdict_json.proofs.rows.put_end.Goals as goal

pub returns : goal.returns
unfolding end_value
returns c =
    simp (
      append_assoc,
      c.in_ok-end_object.ensures,
      c.in_ok-put_rows.ensures,
      c.in_ok-key.ensures,
      c.in_ok-word_member.ensures,
      c.in_ok-begin_object.ensures,
    ) refl
