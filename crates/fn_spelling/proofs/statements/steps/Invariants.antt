-- The steps that are left, behind those that were made.
use Rattle.std.proofs.Common.{◌≡◌, ◌++◌, drop}
use Rattle.fn_matter.specs.Numbers.{way_numbers}
use Rattle.fn_spelling.proofs.statements.steps.Given as goal

abbrev pub invariant-loop-step : goal.invariant-loop-step
invariant-loop-step l = l.made.items ++ way_numbers (drop l.step-index l.way) ≡ way_numbers l.way
