use Rattle.std.proofs.Common.{refl, append_assoc}
use Rattle.verdict_json.specs.Checks.{totals_value}
use Rattle.verdict_json.proofs.checks.put_totals.Goals as goal

pub returns : goal.returns
unfolding totals_value
returns c =
    simp (
      append_assoc,
      c.in_ok-end_object.ensures,
      c.in_ok-count_member-4.ensures,
      c.in_ok-count_member-3.ensures,
      c.in_ok-count_member-2.ensures,
      c.in_ok-count_member.ensures,
      c.in_ok-begin_object.ensures,
    ) refl
