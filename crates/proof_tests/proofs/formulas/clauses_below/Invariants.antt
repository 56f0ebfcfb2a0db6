use Rattle.std.proofs.Common.{take}
use Rattle.sat_base.specs.Logic.{ClausesBelow}
use Rattle.proof_tests.proofs.formulas.clauses_below.Given as goal

abbrev pub invariant-loop-clause : goal.invariant-loop-clause
invariant-loop-clause l = ClausesBelow l.vars (take l.clause-index l.clauses)
