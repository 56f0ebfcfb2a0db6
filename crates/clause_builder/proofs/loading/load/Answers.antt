-- The literals are those of the gates, and the clauses those of all gates.
use Rattle.std.proofs.Common.{subst, ◌∙◌}
use Rattle.clause_builder.specs.Adding.{AddsFresh}
use Rattle.clause_builder.proofs.Values.{loaded_from, lits_below, lits_from, length-lits}
use Rattle.clause_builder.proofs.loading.load.Goals as goal

pub add_gates-requires-clause-vars : goal.add_gates-requires-clause-vars
add_gates-requires-clause-vars g c =
    lits_below _ _ _ _ (c.as_slice.ensures.value ∙ c.in_ok-list.ensures.lits) c.in_ok-list.ensures.vars

pub add_gates-requires-clause-gates : goal.add_gates-requires-clause-gates
add_gates-requires-clause-gates g c =
    length-lits _ _ _ (c.as_slice.ensures.value ∙ c.in_ok-list.ensures.lits) ∙ c.len.ensures

pub returns-in_err-add_gates-clause-fresh : goal.returns-in_err-add_gates-clause-fresh
returns-in_err-add_gates-clause-fresh g c =
    subst (λ clauses. AddsFresh (g.S.Solver.vars c.args.s.now) clauses (g.S.Solver.clauses c.add_gates.new.s)) c.in_ok-list.ensures.clauses
    (c.add_gates.ensures.fresh _ (lits_from _ _ _ (c.as_slice.ensures.value ∙ c.in_ok-list.ensures.lits)))

pub returns-clause-loaded : goal.returns-clause-loaded
returns-clause-loaded g c =
    loaded_from _ _ _ _ c.as_slice.result.now _ c.len.result c.sound.ensures c.in_ok-list.ensures.unused
    c.runs_fit_tables.ensures.fits c.runs_fit_tables.ensures.runs
    c.in_ok-list.ensures.clauses (c.as_slice.ensures.value ∙ c.in_ok-list.ensures.lits) c.len.ensures c.in_ok-add_gates.ensures.ok

pub returns-clause-fresh : goal.returns-clause-fresh
returns-clause-fresh g c =
    subst (λ clauses. AddsFresh (g.S.Solver.vars c.args.s.now) clauses (g.S.Solver.clauses c.add_gates.new.s)) c.in_ok-list.ensures.clauses
    (c.add_gates.ensures.fresh _ (lits_from _ _ _ (c.as_slice.ensures.value ∙ c.in_ok-list.ensures.lits)))

pub returns-clause-count : goal.returns-clause-count
returns-clause-count g c = length-lits _ _ _ c.in_ok-list.ensures.lits ∙ c.len.ensures
