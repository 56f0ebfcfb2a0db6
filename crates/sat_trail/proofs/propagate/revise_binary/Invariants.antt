use Rattle.sat_trail.specs.Weight.{Extends}
use Rattle.sat_trail.proofs.propagate.revise_binary.Given as goal

abbrev pub invariant-loop-watch : goal.invariant-loop-watch
invariant-loop-watch l = Extends l.clauses.given l.fn.trail l.trail
