use Rattle.std.proofs.Common.{◌≡◌}
use Rattle.proof_tests.proofs.formulas.add_clauses.Given as goal

-- the variables stay
abbrev pub invariant-loop-clause : goal.invariant-loop-clause
invariant-loop-clause l = l.solver.vars ≡ l.fn.solver.vars
