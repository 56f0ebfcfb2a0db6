use Rattle.std.proofs.Common.{◌∙◌, ap, map}
use Rattle.std.specs.Prelude.{nat_lt}
use Rattle.std.specs.Arc.{arc_value}
use Rattle.json_checks.proofs.Totals.{total_is_any}
use Rattle.json_checks.proofs.checked.any_report.Goals as goal

pub returns : goal.returns
returns c = ap (nat_lt 0) c.in_ok-totals.ensures.reports ∙ total_is_any (map arc_value c.args.verdicts.now)
