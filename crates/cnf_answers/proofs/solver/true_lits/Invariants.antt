use Rattle.std.proofs.Common.{◌≡◌, take}
use Rattle.cnf_answers.specs.Models.{true_lits}
use Rattle.cnf_answers.proofs.solver.true_lits.Given as goal

-- the literals of the variables so far
abbrev pub invariant-loop-var : goal.invariant-loop-var
invariant-loop-var l = l.lits.items ≡ true_lits 0 (take l.var l.solver.found)
