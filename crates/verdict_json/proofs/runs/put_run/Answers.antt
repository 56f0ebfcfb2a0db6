use Rattle.std.proofs.Common.{refl}
use Rattle.verdict_json.specs.Runs.{run_value}
use Rattle.verdict_json.proofs.runs.put_run.Goals as goal

pub returns : goal.returns
unfolding run_value
returns c =
    simp (
      c.in_ok-put_ran.ensures,
      c.as_slice.ensures,
      c.as_slice-2.ensures,
      c.as_slice-3.ensures,
    ) refl
