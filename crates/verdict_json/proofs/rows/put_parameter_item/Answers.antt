use Rattle.std.proofs.Common.{refl, append_assoc}
use Rattle.verdict_json.specs.Rows.{parameter_head, parameter_item}
use Rattle.verdict_json.proofs.rows.put_parameter_item.Goals as goal

pub returns : goal.returns
unfolding parameter_head parameter_item
returns c =
    simp (
      append_assoc,
      c.in_ok-end_object.ensures,
      c.in_ok-put_rows.ensures,
      c.in_ok-key.ensures,
      c.in_ok-begin_parameter.ensures,
    ) refl
