use Rattle.std.proofs.Common.{refl}
use Rattle.std.proofs.lemmas.List.{length-map}
use Rattle.std.specs.Arc.{arc_value}
use Rattle.verdict_json.proofs.checks.put_totals_of.Goals as goal

pub returns : goal.returns
returns c =
    simp (
      c.in_ok-put_totals.ensures,
      c.in_ok-totals.ensures.skipped,
      c.in_ok-totals.ensures.rows,
      c.in_ok-totals.ensures.reports,
      length-map c.args.verdicts.now arc_value,
    ) refl
