-- The clause of this number, or none.
use Rattle.std.proofs.lemmas.Bool.{false≢true}
use Rattle.rup_check.proofs.FindingLemmas.{found_by}
use Rattle.rup_check.proofs.find.is_found.Goals as goal

pub returns-in-None-clause-found : goal.returns-in-None-clause-found
returns-in-None-clause-found c = ((λ yes. absurd (false≢true yes)), (λ h. absurd (c.in-None.ensures h.0 h.1)))

pub returns-in-Some-clause-found : goal.returns-in-Some-clause-found
returns-in-Some-clause-found c =
    found_by c.args.store.now c.args.clause.now c.in-Some.there.now c.args.id c.has_same_lits.result c.in-Some.ensures c.has_same_lits.ensures.same
