use Rattle.std.proofs.Common.{◌≡◌}
use Rattle.solver_tests.proofs.learning.with_variables.Given as goal

-- the variables that are there
abbrev pub invariant-loop-var : goal.invariant-loop-var
invariant-loop-var l = l.solver.vars ≡ l._var
