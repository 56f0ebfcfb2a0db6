-- A fresh variable with the clause of its value.
use Rattle.std.proofs.Common.{◌∙◌}
use Rattle.clause_builder.proofs.Extension.{fresh_below, defines_constant}
use Rattle.clause_builder.proofs.node_lits.constant_node.Goals as goal

pub constant_clauses-requires : goal.constant_clauses-requires
constant_clauses-requires g c = fresh_below _ _ _ c.in_ok-out.ensures.ok.0 c.in_ok-out.ensures.ok.1

pub returns-clause-below : goal.returns-clause-below
returns-clause-below g c = fresh_below _ _ _ c.in_ok-out.ensures.ok.0 (c.in_ok-constant_clauses.ensures.vars ∙ c.in_ok-out.ensures.ok.1)

pub returns-clause-defines : goal.returns-clause-defines
returns-clause-defines g c =
    defines_constant _ _ _ _ c.in_ok-out.out c.args.b c.in_ok-out.ensures.unused c.in_ok-out.ensures.clauses c.in_ok-out.ensures.ok.0
    c.in_ok-constant_clauses.ensures.ok
