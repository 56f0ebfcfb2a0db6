-- The clauses are those of the `and` of the opposites.
use Rattle.clause_builder.proofs.Clauses.{from_negation}
use Rattle.clause_builder.proofs.Tables.{adds_or}
use Rattle.clause_builder.proofs.gate_clauses.or_clauses.Goals as goal

pub returns-clause-ok : goal.returns-clause-ok
returns-clause-ok g c =
    adds_or _ _ c.args.out c.args.a c.args.b _ _ _ c.negated-not_out.ensures c.negated-not_a.ensures c.negated-not_b.ensures c.in_ok-and_clauses.ensures.ok

pub returns-clause-fresh : goal.returns-clause-fresh
returns-clause-fresh g c base out a b =
    c.and_clauses.ensures.fresh base (from_negation base _ _ c.negated-not_out.ensures out) (from_negation base _ _ c.negated-not_a.ensures a)
    (from_negation base _ _ c.negated-not_b.ensures b)

pub returns-in_err-and_clauses-clause-fresh : goal.returns-in_err-and_clauses-clause-fresh
returns-in_err-and_clauses-clause-fresh g c base out a b =
    c.and_clauses.ensures.fresh base (from_negation base _ _ c.negated-not_out.ensures out) (from_negation base _ _ c.negated-not_a.ensures a)
    (from_negation base _ _ c.negated-not_b.ensures b)
