use Rattle.verdict_json.specs.Reports.{report_value}
use Rattle.verdict_json.specs.Tellings.{says_told}
use Rattle.json_places.proofs.Arrays.{array_behind}
use Rattle.verdict_json.proofs.reports.put_reports.Goals as goal

pub returns : goal.returns
returns c =
    array_behind (report_value c.args.check.now.program.now c.args.check.now.marks.now (says_told c.args.check.now c.args.telling) c.args.function.now.pos.file c.args.function.now.params) c.args.reports.now c.loop-report.report-index c.args.text.now c.loop-report.text _
    c.loop-report-test.false c.loop-report.invariant c.in_ok-end_array.ensures
