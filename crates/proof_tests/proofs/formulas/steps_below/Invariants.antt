use Rattle.std.proofs.Common.{take}
use Rattle.rup_check.specs.Checked.{StepsBelow}
use Rattle.proof_tests.proofs.formulas.steps_below.Given as goal

abbrev pub invariant-loop-step : goal.invariant-loop-step
invariant-loop-step l = StepsBelow l.vars (take l.step-index l.steps)
