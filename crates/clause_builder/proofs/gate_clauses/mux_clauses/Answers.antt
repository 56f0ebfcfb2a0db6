-- The clauses are added one after the other, and together they are the table.
use Rattle.clause_builder.proofs.Clauses.{fresh_more, from_negation}
use Rattle.clause_builder.proofs.Tables.{adds_mux}
use Rattle.clause_builder.proofs.gate_clauses.mux_clauses.Goals as goal

pub returns-clause-ok : goal.returns-clause-ok
returns-clause-ok g c = adds_mux _ _ _ _ _ _ _ _ _ _ _ _ _ c.negated-not_out.ensures c.negated-not_c.ensures c.negated-not_a.ensures c.negated-not_b.ensures c.in_ok-add_three.ensures.ok c.in_ok-add_three-2.ensures.ok c.in_ok-add_three-3.ensures.ok c.in_ok-add_three-4.ensures.ok

pub returns-in_err-add_three-2-clause-fresh : goal.returns-in_err-add_three-2-clause-fresh
returns-in_err-add_three-2-clause-fresh g c base out cond a b = fresh_more base _ _ _ (c.add_three.ensures.fresh base (from_negation base _ _ c.negated-not_out.ensures out) (from_negation base _ _ c.negated-not_c.ensures cond) a) (c.add_three-2.ensures.fresh base out (from_negation base _ _ c.negated-not_c.ensures cond) (from_negation base _ _ c.negated-not_a.ensures a))

pub returns-in_err-add_three-3-clause-fresh : goal.returns-in_err-add_three-3-clause-fresh
returns-in_err-add_three-3-clause-fresh g c base out cond a b = fresh_more base _ _ _ (fresh_more base _ _ _ (c.add_three.ensures.fresh base (from_negation base _ _ c.negated-not_out.ensures out) (from_negation base _ _ c.negated-not_c.ensures cond) a) (c.add_three-2.ensures.fresh base out (from_negation base _ _ c.negated-not_c.ensures cond) (from_negation base _ _ c.negated-not_a.ensures a))) (c.add_three-3.ensures.fresh base (from_negation base _ _ c.negated-not_out.ensures out) cond b)

pub returns-in_err-add_three-4-clause-fresh : goal.returns-in_err-add_three-4-clause-fresh
returns-in_err-add_three-4-clause-fresh g c base out cond a b = fresh_more base _ _ _ (fresh_more base _ _ _ (fresh_more base _ _ _ (c.add_three.ensures.fresh base (from_negation base _ _ c.negated-not_out.ensures out) (from_negation base _ _ c.negated-not_c.ensures cond) a) (c.add_three-2.ensures.fresh base out (from_negation base _ _ c.negated-not_c.ensures cond) (from_negation base _ _ c.negated-not_a.ensures a))) (c.add_three-3.ensures.fresh base (from_negation base _ _ c.negated-not_out.ensures out) cond b)) (c.add_three-4.ensures.fresh base out cond (from_negation base _ _ c.negated-not_b.ensures b))

pub returns-clause-fresh : goal.returns-clause-fresh
returns-clause-fresh g c base out cond a b = fresh_more base _ _ _ (fresh_more base _ _ _ (fresh_more base _ _ _ (c.add_three.ensures.fresh base (from_negation base _ _ c.negated-not_out.ensures out) (from_negation base _ _ c.negated-not_c.ensures cond) a) (c.add_three-2.ensures.fresh base out (from_negation base _ _ c.negated-not_c.ensures cond) (from_negation base _ _ c.negated-not_a.ensures a))) (c.add_three-3.ensures.fresh base (from_negation base _ _ c.negated-not_out.ensures out) cond b)) (c.add_three-4.ensures.fresh base out cond (from_negation base _ _ c.negated-not_b.ensures b))
