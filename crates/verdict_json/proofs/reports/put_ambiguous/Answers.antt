use Rattle.std.proofs.Common.{refl, append_assoc}
use Rattle.verdict_json.specs.Reports.{location_report}
use Rattle.verdict_json.proofs.reports.put_ambiguous.Goals as goal

pub returns : goal.returns
unfolding location_report
returns c =
    simp (
      append_assoc,
      c.in_ok-end_object.ensures,
      c.in_ok-put_two.ensures,
      c.in_ok-key-2.ensures,
      c.in_ok-put_path.ensures,
      c.in_ok-key.ensures,
      c.in_ok-word_member.ensures,
      c.in_ok-begin_object.ensures,
      c.as_slice.ensures,
    ) refl
