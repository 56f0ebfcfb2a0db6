use Rattle.std.proofs.Common.{refl, append_assoc}
use Rattle.verdict_json.specs.Rows.{write_value}
use Rattle.verdict_json.proofs.rows.put_write.Goals as goal

pub returns : goal.returns
unfolding write_value
returns c =
    simp (
      append_assoc,
      c.in_ok-end_object.ensures,
      c.in_ok-count_member.ensures,
      c.in_ok-put_path.ensures,
      c.in_ok-key.ensures,
      c.in_ok-begin_object.ensures,
      c.from.ensures,
    ) refl
