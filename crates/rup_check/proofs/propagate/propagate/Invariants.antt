use Rattle.rup_check.specs.Stored.{present}
use Rattle.rup_check.specs.Propagating.{Extends}
use Rattle.rup_check.proofs.propagate.propagate.Given as goal

abbrev pub invariant-loop-place : goal.invariant-loop-place
invariant-loop-place l = Extends (present l.store) l.fn.marks l.marks
