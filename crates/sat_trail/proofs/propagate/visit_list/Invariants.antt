use Rattle.sat_trail.specs.Weight.{Extends}
use Rattle.sat_trail.proofs.propagate.visit_list.Given as goal

abbrev pub invariant-loop-entry : goal.invariant-loop-entry
invariant-loop-entry l = Extends l.clauses.given l.fn.trail l.trail
