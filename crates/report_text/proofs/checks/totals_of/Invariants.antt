-- The counts so far.
use Rattle.std.proofs.Common.{◌≡◌, map, take, sum_by}
use Rattle.std.specs.Arc.{arc_value}
use Rattle.report_text.specs.Checks.{skipped_in, rows_in, reports_in}
use Rattle.report_text.proofs.checks.totals_of.Given as goal

abbrev pub invariant-loop-verdict : goal.invariant-loop-verdict
invariant-loop-verdict l =
    (l.totals.skipped ≡ sum_by skipped_in (map arc_value (take l.verdict-index l.verdicts)))
    × (l.totals.rows ≡ sum_by rows_in (map arc_value (take l.verdict-index l.verdicts)))
    × (l.totals.reports ≡ sum_by reports_in (map arc_value (take l.verdict-index l.verdicts)))
