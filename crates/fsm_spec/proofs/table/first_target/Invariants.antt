-- The targets so far are errors, so the rest gives what all give.
use Rattle.std.proofs.Common.{◌≡◌, drop}
use Rattle.fsm_spec.specs.Table.{first_target}
use Rattle.fsm_spec.proofs.table.first_target.Given as goal

abbrev pub invariant-loop-target : goal.invariant-loop-target
invariant-loop-target l = first_target (drop l.target-index l.targets) ≡ first_target l.targets
