use Rattle.std.proofs.Common.{refl, append_assoc}
use Rattle.verdict_json.specs.Rows.{row_value}
use Rattle.verdict_json.proofs.rows.put_row.Goals as goal

pub returns : goal.returns
unfolding row_value
returns c =
    simp (
      append_assoc,
      c.in_ok-end_object.ensures,
      c.in_ok-put_state_member-2.ensures,
      c.in_ok-word_member.ensures,
      c.in_ok-put_state_member.ensures,
      c.in_ok-put_entry.ensures,
      c.in_ok-key.ensures,
      c.in_ok-begin_object.ensures,
      c.result_word.ensures,
    ) refl
