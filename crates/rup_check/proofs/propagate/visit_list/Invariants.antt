use Rattle.rup_check.specs.Stored.{present}
use Rattle.rup_check.specs.Propagating.{Extends}
use Rattle.rup_check.proofs.propagate.visit_list.Given as goal

abbrev pub invariant-loop-entry : goal.invariant-loop-entry
invariant-loop-entry l = Extends (present l.store) l.fn.marks l.marks
