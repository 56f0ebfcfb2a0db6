-- A fresh variable without clauses.
use Rattle.clause_builder.proofs.Extension.{fresh_below, free_from_fresh}
use Rattle.clause_builder.proofs.node_lits.input_node.Goals as goal

pub returns-clause-below : goal.returns-clause-below
returns-clause-below g c = fresh_below _ _ _ c.in_ok-out.ensures.ok.0 c.in_ok-out.ensures.ok.1

pub returns-clause-free : goal.returns-clause-free
returns-clause-free g c = free_from_fresh _ _ _ c.in_ok-out.out c.in_ok-out.ensures.unused c.in_ok-out.ensures.clauses c.in_ok-out.ensures.ok.0
