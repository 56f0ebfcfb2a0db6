-- The clauses are added one after the other, and together they are the table.
use Rattle.clause_builder.proofs.Clauses.{fresh_more, from_negation}
use Rattle.clause_builder.proofs.Tables.{adds_not}
use Rattle.clause_builder.proofs.gate_clauses.not_clauses.Goals as goal

pub returns-clause-ok : goal.returns-clause-ok
returns-clause-ok g c = adds_not _ _ _ _ _ _ _ c.negated-not_out.ensures c.negated-not_a.ensures c.in_ok-add_two.ensures.ok c.in_ok-add_two-2.ensures.ok

pub returns-in_err-add_two-2-clause-fresh : goal.returns-in_err-add_two-2-clause-fresh
returns-in_err-add_two-2-clause-fresh g c base out a = fresh_more base _ _ _ (c.add_two.ensures.fresh base out a) (c.add_two-2.ensures.fresh base (from_negation base _ _ c.negated-not_out.ensures out) (from_negation base _ _ c.negated-not_a.ensures a))

pub returns-clause-fresh : goal.returns-clause-fresh
returns-clause-fresh g c base out a = fresh_more base _ _ _ (c.add_two.ensures.fresh base out a) (c.add_two-2.ensures.fresh base (from_negation base _ _ c.negated-not_out.ensures out) (from_negation base _ _ c.negated-not_a.ensures a))
