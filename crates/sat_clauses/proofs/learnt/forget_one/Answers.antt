-- No other reference names the clause that is dropped.
use Rattle.std.proofs.Common.{slice_get, ap, sym, ◌∙◌}
use Rattle.sat_clauses.proofs.LearntLemmas.{thins_one, free_set, free_already}
use Rattle.sat_clauses.proofs.learnt.forget_one.Goals as goal

pub returns-in-Some-clause-thins : goal.returns-in-Some-clause-thins
returns-in-Some-clause-thins c =
    thins_one c.args.pool.now c.drop_clause.new.self c.args.table.now.items c.args.i c.in-Some.r c.requires
    (ap (λ es. slice_get es c.args.i) (sym c.as_slice.ensures.value) ∙ c.in-Some.ensures.found) c.drop_clause.ensures.others

pub returns-in-Some-clause-gone : goal.returns-in-Some-clause-gone
returns-in-Some-clause-gone c =
    free_set c.drop_clause.new.self c.args.table.now.items c.args.i c.in-Some.r
    (ap (λ es. slice_get es c.args.i) (sym c.as_slice.ensures.value) ∙ c.in-Some.ensures.found)

pub returns-in-None-clause-gone : goal.returns-in-None-clause-gone
returns-in-None-clause-gone c =
    free_already c.args.pool.now c.args.table.now.items c.args.i
    (λ r at. c.in-None.ensures.none r (ap (λ es. slice_get es c.args.i) c.as_slice.ensures.value ∙ at))
