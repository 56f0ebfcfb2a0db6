-- The opposite literal.
use Rattle.std.proofs.Common.{◌<◌, refl, sym, subst}
use Rattle.clause_builder.proofs.Extension.{encodes_not}
use Rattle.clause_builder.proofs.node_lits.not_node.Goals as goal

pub returns-clause-var : goal.returns-clause-var
returns-clause-var c n below = subst (λ l. l.var < n) (sym c.negated.ensures) (below c.args.a.at c.loaded_lit-lit.result c.loaded_lit-lit.ensures)

pub returns-clause-defines : goal.returns-clause-defines
returns-clause-defines c n clauses =
    encodes_not c.args.lits.now n clauses clauses _ c.args.a.at c.loaded_lit-lit.result c.loaded_lit-lit.ensures refl c.negated.ensures
