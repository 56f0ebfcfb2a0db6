-- Some verdict has a report where one of those that are left has one.
use Rattle.std.proofs.Common.{◌≡◌, map, drop}
use Rattle.std.specs.List.{list_any}
use Rattle.std.specs.Arc.{arc_value}
use Rattle.whole_checks.specs.Said.{has_report}
use Rattle.whole_checks.proofs.checked.any_report.Given as goal

abbrev pub invariant-loop-verdict : goal.invariant-loop-verdict
invariant-loop-verdict l =
    list_any has_report (map arc_value (drop l.verdict-index l.verdicts)) ≡ list_any has_report (map arc_value l.fn.verdicts)
