use Rattle.rup_check.specs.Stored.{present}
use Rattle.rup_check.specs.Propagating.{Extends}
use Rattle.rup_check.proofs.closing.close.Given as goal

abbrev pub invariant-passes : goal.invariant-passes
invariant-passes l = Extends (present l.store) l.fn.marks l.marks

abbrev pub decreases-passes : goal.decreases-passes
decreases-passes l = l.marks.unmarked
