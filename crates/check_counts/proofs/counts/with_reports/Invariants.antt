-- The reports so far.
use Rattle.std.proofs.Common.{◌≡◌, ◌+◌, take, sum_by}
use Rattle.check_counts.specs.Counts.{doubles_in, ambiguous_in, inner_in, leaks_in}
use Rattle.check_counts.proofs.counts.with_reports.Given as goal

abbrev pub invariant-loop-report : goal.invariant-loop-report
invariant-loop-report l =
    (l.more.double ≡ l.fn.kinds.double + sum_by doubles_in (take l.report-index l.reports))
    × (l.more.ambiguous ≡ l.fn.kinds.ambiguous + sum_by ambiguous_in (take l.report-index l.reports))
    × (l.more.inner ≡ l.fn.kinds.inner + sum_by inner_in (take l.report-index l.reports))
    × (l.more.leak ≡ l.fn.kinds.leak + sum_by leaks_in (take l.report-index l.reports))
