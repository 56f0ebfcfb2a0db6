use Rattle.std.proofs.Common.{take}
use Rattle.sat_base.proofs.Passing.{Passed}
use Rattle.sat_base.proofs.propagate.pass_over.Given as goal

abbrev pub invariant-loop-clause : goal.invariant-loop-clause
invariant-loop-clause l = Passed l.clauses (take l.clause-index l.clauses) l.fn.marks l.marks l.unset l.changed
