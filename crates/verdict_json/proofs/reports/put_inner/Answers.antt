use Rattle.std.proofs.Common.{refl, append_assoc}
use Rattle.verdict_json.specs.Reports.{inner_report}
use Rattle.verdict_json.proofs.reports.put_inner.Goals as goal

pub returns : goal.returns
unfolding inner_report
returns c =
    simp (
      append_assoc,
      c.in_ok-end_object.ensures,
      c.in_ok-put_one.ensures,
      c.in_ok-key.ensures,
      c.in_ok-word_member.ensures,
      c.in_ok-begin_object.ensures,
    ) refl
