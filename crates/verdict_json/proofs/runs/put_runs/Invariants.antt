-- The runs so far.
use Rattle.std.proofs.Common.{◌≡◌, [], ◌∷◌, ◌++◌, take}
use Rattle.json.specs.Token.{begin_array}
use Rattle.json_places.specs.Arrays.{tokens_by}
use Rattle.verdict_json.specs.Runs.{run_value}
use Rattle.verdict_json.specs.Tellings.{says_told}
use Rattle.verdict_json.proofs.runs.put_runs.Given as goal

abbrev pub invariant-loop-run : goal.invariant-loop-run
invariant-loop-run l =
    l.text ≡ (l.fn.text ++ begin_array ∷ []) ++ tokens_by (run_value l.check.program.now l.check.marks.now l.file (says_told l.check l.telling)) (take l.run-index l.runs)
