use Rattle.std.proofs.Common.{◌≡◌, ◌-◌}
use Rattle.sat_trail.specs.Weight.{numbers, trail_weight}
use Rattle.sat_cdcl.specs.Answered.{AllFollow}
use Rattle.sat_cdcl.proofs.search.run.Given as goal

abbrev pub invariant-loop-progress : goal.invariant-loop-progress
invariant-loop-progress l = record {
  vars : l.search.trail.vars ≡ l.fn.search.trail.vars;
  given : l.search.clauses.given ≡ l.fn.search.clauses.given;
  follow : AllFollow l.search.clauses.given l.assumed l.search.trail.steps;
}

abbrev pub decreases-loop-progress : goal.decreases-loop-progress
decreases-loop-progress l = numbers l.search.trail.vars - trail_weight l.search.trail
