-- The reports so far.
use Rattle.std.proofs.Common.{◌≡◌, [], ◌∷◌, ◌++◌, take}
use Rattle.json.specs.Token.{begin_array}
use Rattle.json_places.specs.Arrays.{tokens_by}
use Rattle.verdict_json.specs.Reports.{report_value}
use Rattle.verdict_json.specs.Tellings.{says_told}
use Rattle.verdict_json.proofs.reports.put_reports.Given as goal

abbrev pub invariant-loop-report : goal.invariant-loop-report
invariant-loop-report l =
    l.text ≡ (l.fn.text ++ begin_array ∷ []) ++ tokens_by (report_value l.check.program.now l.check.marks.now (says_told l.check l.telling) l.function.pos.file l.function.params) (take l.report-index l.reports)
