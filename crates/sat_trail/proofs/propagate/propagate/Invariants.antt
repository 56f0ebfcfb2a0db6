use Rattle.std.proofs.Common.{◌-◌}
use Rattle.sat_trail.specs.Weight.{Extends}
use Rattle.sat_trail.proofs.propagate.propagate.Given as goal

abbrev pub invariant-loop-place : goal.invariant-loop-place
invariant-loop-place l = Extends l.clauses.given l.fn.trail l.trail

abbrev pub decreases-loop-place : goal.decreases-loop-place
decreases-loop-place l = l.trail.vars - l.place
