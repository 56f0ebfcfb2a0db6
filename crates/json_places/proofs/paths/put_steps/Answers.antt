use Rattle.json_places.specs.Paths.{step_value}
use Rattle.json_places.proofs.Arrays.{array_behind}
use Rattle.json_places.proofs.paths.put_steps.Goals as goal

pub returns : goal.returns
returns c =
    array_behind (step_value c.args.program.now) c.args.steps.now c.loop-step.step-index c.args.text.now c.loop-step.text _
    c.loop-step-test.false c.loop-step.invariant c.in_ok-end_array.ensures
