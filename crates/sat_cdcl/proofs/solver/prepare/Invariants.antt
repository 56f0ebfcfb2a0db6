use Rattle.std.proofs.Common.{◌≡◌, ◌≤◌, ◌-◌, []}
use Rattle.sat_cdcl.proofs.solver.prepare.Given as goal

abbrev pub invariant-loop-trail : goal.invariant-loop-trail
invariant-loop-trail l = (l.trail.steps ≡ []) × (l.trail.vars ≤ l.vars)

abbrev pub decreases-loop-trail : goal.decreases-loop-trail
decreases-loop-trail l = l.vars - l.trail.vars
