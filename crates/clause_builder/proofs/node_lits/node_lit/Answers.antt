-- Nothing is added for the opposite of a gate.
use Rattle.std.proofs.Common.{sym, subst}
use Rattle.clause_builder.specs.Cones.{Encodes}
use Rattle.clause_builder.proofs.node_lits.node_lit.Goals as goal

pub returns-in-Not-clause-encodes : goal.returns-in-Not-clause-encodes
returns-in-Not-clause-encodes g c =
    let n = g.S.Solver.vars c.args.s.now in
    let clauses = g.S.Solver.clauses c.args.s.now in
    subst (λ node. Encodes c.args.lits.now node n clauses clauses c.not_node.result) (sym c.in-Not.is) (c.not_node.ensures.defines n clauses)
