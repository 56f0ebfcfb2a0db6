use Rattle.std.proofs.Common.{◌≡◌, rules}
use Rattle.cnf_answers.proofs.ModelLemmas.{none_of}
use Rattle.cnf_answers.proofs.deciding.decide.Goals as goal

pub returns : goal.returns
returns c =
    let same : c.in_ok-solver.solver.clauses ≡ c.args.formula.now.clauses = search rules in
    none_of _ _ _ _ _ c.in-NoModel.is same c.in_ok-solve.ensures.answer
