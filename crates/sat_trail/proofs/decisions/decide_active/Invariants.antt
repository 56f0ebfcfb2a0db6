use Rattle.std.proofs.Common.{◌≡◌}
use Rattle.sat_trail.proofs.decisions.decide_active.Given as goal

abbrev pub invariant-loop-variable : goal.invariant-loop-variable
invariant-loop-variable l = l.trail ≡ l.fn.trail
