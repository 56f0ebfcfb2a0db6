-- What was put, before the text of what is left, is the whole text.
use Rattle.std.proofs.Common.{◌≡◌, ◌++◌, drop}
use Rattle.drat_text.specs.Writing.{steps_text}
use Rattle.drat_text.proofs.writing.put_steps.Given as goal

abbrev pub invariant-loop-step : goal.invariant-loop-step
invariant-loop-step l = l.out.items ++ steps_text (drop l.step-index l.steps) ≡ l.fn.out.items ++ steps_text l.steps
