-- A fresh variable with the clauses of its value.
use Rattle.std.proofs.Common.{◌&&◌, ◌∙◌, arith}
use Rattle.clause_builder.proofs.Extension.{fresh_below, defines_two, encodes_two}
use Rattle.clause_builder.proofs.node_lits.and_node.Goals as goal

pub and_clauses-requires-clause-out : goal.and_clauses-requires-clause-out
and_clauses-requires-clause-out g c = fresh_below _ _ _ c.in_ok-out.ensures.ok.0 c.in_ok-out.ensures.ok.1

pub and_clauses-requires-clause-a : goal.and_clauses-requires-clause-a
and_clauses-requires-clause-a g c =
    let below = c.requires.below c.args.a.at c.loaded_lit-left.result c.loaded_lit-left.ensures in
    let next = c.in_ok-out.ensures.ok.1 in omega (arith, below, next)

pub and_clauses-requires-clause-b : goal.and_clauses-requires-clause-b
and_clauses-requires-clause-b g c =
    let below = c.requires.below c.args.b.at c.loaded_lit-right.result c.loaded_lit-right.ensures in
    let next = c.in_ok-out.ensures.ok.1 in omega (arith, below, next)

pub returns-clause-below : goal.returns-clause-below
returns-clause-below g c = fresh_below _ _ _ c.in_ok-out.ensures.ok.0 (c.in_ok-and_clauses.ensures.vars ∙ c.in_ok-out.ensures.ok.1)

pub returns-clause-defines : goal.returns-clause-defines
returns-clause-defines g c =
    let left = c.loaded_lit-left.result in
    let right = c.loaded_lit-right.result in
    encodes_two (λ x y. x && y) c.args.lits.now _ _ _ c.in_ok-out.out c.args.a.at c.args.b.at left right c.loaded_lit-left.ensures c.loaded_lit-right.ensures
    (defines_two (λ x y. x && y) _ _ _ _ c.in_ok-out.out left right (c.requires.below c.args.a.at left c.loaded_lit-left.ensures)
    (c.requires.below c.args.b.at right c.loaded_lit-right.ensures) c.in_ok-out.ensures.unused c.in_ok-out.ensures.clauses c.in_ok-out.ensures.ok.0
    c.in_ok-and_clauses.ensures.ok)
