use Rattle.std.proofs.Common.{refl, append_assoc}
use Rattle.run_json.specs.Runs.{replay_value}
use Rattle.run_json.proofs.runs.put_replay.Goals as goal

pub returns : goal.returns
unfolding replay_value
returns c =
    simp (
      append_assoc,
      c.in_ok-end_ran.ensures,
      c.in_ok-put_function.ensures,
      c.in_ok-key-2.ensures,
      c.in_ok-put_options.ensures,
      c.in_ok-key.ensures,
      c.in_ok-begin.ensures,
    ) refl
