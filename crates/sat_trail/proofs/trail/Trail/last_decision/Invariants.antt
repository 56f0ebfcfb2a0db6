use Rattle.std.proofs.Common.{◌≤◌, length, drop}
use Rattle.sat_trail.specs.Steps.{AllImplied}
use Rattle.sat_trail.proofs.trail.Trail.last_decision.Given as goal

abbrev pub invariant-loop-behind : goal.invariant-loop-behind
invariant-loop-behind l = (l.behind ≤ length l.self.steps) × AllImplied (drop l.behind l.self.steps)

abbrev pub decreases-loop-behind : goal.decreases-loop-behind
decreases-loop-behind l = l.behind
