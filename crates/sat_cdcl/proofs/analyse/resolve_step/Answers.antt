-- The negation of the step goes out, and the other literals of its clause come in.
use Rattle.sat_cdcl.proofs.ResolventLemmas.{if_ok, entails_resolved}
use Rattle.sat_cdcl.proofs.InferredLemmas.{inferred_resolved}
use Rattle.sat_cdcl.proofs.analyse.resolve_step.Goals as goal

pub returns-clause-entailed : goal.returns-clause-entailed
returns-clause-entailed c =
    if_ok c.take_all.result _ _
    (λ _ takes.
    entails_resolved c.args.clauses.now.given c.args.resolvent.now c.remove.new.self c.take_all.new.resolvent c.in-Some-get.clause.now c.in-Some.place
    c.negated-gone.result c.args.step.lit c.negated-gone.ensures c.in-Some.ensures c.remove.ensures c.in-Some-get.ensures.entailed takes)
    c.take_all.ensures

pub returns-clause-inferred : goal.returns-clause-inferred
returns-clause-inferred c =
    if_ok c.take_all.result _ _
    (λ _ takes.
    inferred_resolved c.args.clauses.now c.args.resolvent.now c.remove.new.self c.take_all.new.resolvent c.in-Some-get.clause.now c.in-Some.place
    c.negated-gone.result c.args.step.lit c.negated-gone.ensures c.in-Some.ensures c.remove.ensures takes c.in-Some-get.ensures.known)
    c.take_all.ensures
