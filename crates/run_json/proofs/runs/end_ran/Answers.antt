use Rattle.std.proofs.Common.{refl, append_assoc}
use Rattle.verdict_json.specs.Runs.{run_value}
use Rattle.run_json.specs.Runs.{ran_members}
use Rattle.run_json.proofs.runs.end_ran.Goals as goal

pub returns : goal.returns
unfolding ran_members run_value
returns c =
    simp (
      append_assoc,
      c.in_ok-end_object.ensures,
      c.in_ok-put_outcome.ensures,
      c.in_ok-key-2.ensures,
      c.in_ok-put_ran.ensures,
      c.in_ok-key.ensures,
    ) refl
