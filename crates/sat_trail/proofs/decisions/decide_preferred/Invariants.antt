use Rattle.std.proofs.Common.{◌≡◌}
use Rattle.sat_trail.proofs.decisions.decide_preferred.Given as goal

abbrev pub invariant-loop-literal : goal.invariant-loop-literal
invariant-loop-literal l = l.trail ≡ l.fn.trail
