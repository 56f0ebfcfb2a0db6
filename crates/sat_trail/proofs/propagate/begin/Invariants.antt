use Rattle.sat_trail.specs.Weight.{Extends}
use Rattle.sat_trail.proofs.propagate.begin.Given as goal

abbrev pub invariant-loop-i : goal.invariant-loop-i
invariant-loop-i l = Extends l.clauses.given l.fn.trail l.trail
