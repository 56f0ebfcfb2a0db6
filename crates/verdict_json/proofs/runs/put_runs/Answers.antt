use Rattle.verdict_json.specs.Runs.{run_value}
use Rattle.verdict_json.specs.Tellings.{says_told}
use Rattle.json_places.proofs.Arrays.{array_behind}
use Rattle.verdict_json.proofs.runs.put_runs.Goals as goal

pub returns : goal.returns
returns c =
    array_behind (run_value c.args.check.now.program.now c.args.check.now.marks.now c.args.file (says_told c.args.check.now c.args.telling)) c.args.runs.now c.loop-run.run-index c.args.text.now c.loop-run.text _
    c.loop-run-test.false c.loop-run.invariant c.in_ok-end_array.ensures
