-- With the steps that are left, the path is spelled whole.
use Rattle.std.proofs.Common.{◌≡◌, drop}
use Rattle.sc_world.specs.Paths.{spelled}
use Rattle.report_text.specs.Paths.{after_steps, root_text}
use Rattle.report_text.proofs.paths.put_path.Given as goal

abbrev pub invariant-loop-step : goal.invariant-loop-step
invariant-loop-step l =
    after_steps l.program.names l.spelled (drop l.step-index l.step-items)
    ≡ after_steps l.program.names (spelled (root_text l.program l.params l.path.root)) l.path.steps
