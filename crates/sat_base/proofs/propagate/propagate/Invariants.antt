use Rattle.sat_base.specs.Marks.{open_count}
use Rattle.sat_base.specs.Propagation.{Narrows}
use Rattle.sat_base.proofs.propagate.propagate.Given as goal

abbrev pub invariant-loop-var : goal.invariant-loop-var
invariant-loop-var l = Narrows l.clauses l.fn.marks l.marks

abbrev pub decreases-loop-var : goal.decreases-loop-var
decreases-loop-var l = open_count l.marks
