-- The reports so far.
use Rattle.std.proofs.Common.{◌≡◌, ◌++◌, take}
use Rattle.std.specs.List.{flat_map}
use Rattle.report_text.specs.Reports.{report_text}
use Rattle.report_text.proofs.functions.put_reports.Given as goal

abbrev pub invariant-loop-report : goal.invariant-loop-report
invariant-loop-report l =
    l.out.items ≡ l.fn.out.items ++ flat_map (report_text l.program l.params) (take l.report-index l.reports)
