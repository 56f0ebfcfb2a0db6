-- The counts so far.
use Rattle.std.proofs.Common.{◌≡◌, length, map, take, sum_by}
use Rattle.std.specs.Arc.{arc_value}
use Rattle.report_text.specs.Checks.{skipped_in, rows_in}
use Rattle.check_counts.specs.Counts.{reports_by, doubles_in, ambiguous_in, inner_in, leaks_in}
use Rattle.check_counts.proofs.counts.counted.Given as goal

abbrev pub invariant-loop-verdict : goal.invariant-loop-verdict
invariant-loop-verdict l =
    let seen = map arc_value (take l.verdict-index l.verdicts) in
    (l.counts.functions ≡ length (map arc_value l.verdicts))
    × (l.counts.skipped ≡ sum_by skipped_in seen)
    × (l.counts.rows ≡ sum_by rows_in seen)
    × (l.counts.reports.double ≡ sum_by (reports_by doubles_in) seen)
    × (l.counts.reports.ambiguous ≡ sum_by (reports_by ambiguous_in) seen)
    × (l.counts.reports.inner ≡ sum_by (reports_by inner_in) seen)
    × (l.counts.reports.leak ≡ sum_by (reports_by leaks_in) seen)
