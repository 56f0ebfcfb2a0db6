-- No literal is fixed at first.
use Rattle.std.proofs.Common.{subst, drop}
use Rattle.query.specs.Values.{ListsValues}
use Rattle.query.proofs.occurrences.occurring.Goals as goal

pub returns-clause-exact : goal.returns-clause-exact
returns-clause-exact g c =
    let values = c.in_ok-values.values.items in
    let now = subst (λ clauses. ListsValues clauses (drop 0 c.args.bits.now) c.new.result.items 0 values) c.in_ok-model.ensures.clauses c.in_ok-values.ensures.lists in
    let all = subst (λ fixed. ListsValues (g.S.Solver.clauses c.args.s.now) (drop 0 c.args.bits.now) fixed 0 values) c.new.ensures.items now in
    all.exact
