-- What is counted of the verdicts of a program, and the seven lines of the counts.
use Rattle.std.specs.Prelude.{ℕ, List, ◌++◌, length, sum_by, codes, decimal}
use Rattle.sum_rows.specs.declared.report.Report.{Report}
use Rattle.sum_rows.specs.declared.report.Report.TheVariants as report
use Rattle.sum_rows.specs.declared.report.Verdict.{Verdict}
use Rattle.sum_rows.specs.declared.report.Verdict.TheVariants as verdict
use Rattle.report_text.specs.Checks.{skipped_in, rows_in}
use Rattle.check_counts.specs.declared.counts.Counts.{Counts}

-- ---- what is counted of a report: 1 for one of the kind, else 0

abbrev pub doubles_in : Report → ℕ
doubles_in (report.Double path runs) = 1
doubles_in (report.Ambiguous path one other) = 0
doubles_in (report.Inner run) = 0
doubles_in (report.Leak at run) = 0

abbrev pub ambiguous_in : Report → ℕ
ambiguous_in (report.Double path runs) = 0
ambiguous_in (report.Ambiguous path one other) = 1
ambiguous_in (report.Inner run) = 0
ambiguous_in (report.Leak at run) = 0

abbrev pub inner_in : Report → ℕ
inner_in (report.Double path runs) = 0
inner_in (report.Ambiguous path one other) = 0
inner_in (report.Inner run) = 1
inner_in (report.Leak at run) = 0

abbrev pub leaks_in : Report → ℕ
leaks_in (report.Double path runs) = 0
leaks_in (report.Ambiguous path one other) = 0
leaks_in (report.Inner run) = 0
leaks_in (report.Leak at run) = 1

-- ---- what is counted of a verdict: of the reports those of a kind; skips and rows are counted as in the line of totals

abbrev pub reports_by : (of_kind : Report → ℕ) → Verdict → ℕ
reports_by of_kind (verdict.Skipped why) = 0
reports_by of_kind (verdict.Done summary reports) = sum_by of_kind reports

-- ---- the counts of all verdicts

abbrev pub counts_of : List Verdict → Counts
counts_of vs = record {
  functions = length vs;
  skipped = sum_by skipped_in vs;
  rows = sum_by rows_in vs;
  reports = record {
    double = sum_by (reports_by doubles_in) vs;
    ambiguous = sum_by (reports_by ambiguous_in) vs;
    inner = sum_by (reports_by inner_in) vs;
    leak = sum_by (reports_by leaks_in) vs;
  };
}

-- ---- the lines

-- a word, a space, and a number
unfoldable pub line : (word : List ℕ) → ℕ → List ℕ
line word n = word ++ (codes " " ++ (decimal n ++ codes "\n"))

unfoldable pub counts_text : Counts → List ℕ
counts_text c =
    line (codes "functions") c.functions ++ line (codes "skipped") c.skipped ++ line (codes "rows") c.rows
    ++ line (codes "double") c.reports.double ++ line (codes "ambiguous") c.reports.ambiguous
    ++ line (codes "inner") c.reports.inner ++ line (codes "leak") c.reports.leak
