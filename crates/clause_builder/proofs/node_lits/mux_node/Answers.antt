-- A fresh variable with the clauses of its value.
use Rattle.std.proofs.Common.{◌∙◌, arith}
use Rattle.clause_builder.proofs.Extension.{fresh_below, defines_mux, encodes_mux}
use Rattle.clause_builder.proofs.node_lits.mux_node.Goals as goal

pub mux_clauses-requires-clause-out : goal.mux_clauses-requires-clause-out
mux_clauses-requires-clause-out g c = fresh_below _ _ _ c.in_ok-out.ensures.ok.0 c.in_ok-out.ensures.ok.1

pub mux_clauses-requires-clause-c : goal.mux_clauses-requires-clause-c
mux_clauses-requires-clause-c g c =
    let below = c.requires.below c.args.c.at c.loaded_lit-test.result c.loaded_lit-test.ensures in
    let next = c.in_ok-out.ensures.ok.1 in omega (arith, below, next)

pub mux_clauses-requires-clause-a : goal.mux_clauses-requires-clause-a
mux_clauses-requires-clause-a g c =
    let below = c.requires.below c.args.a.at c.loaded_lit-left.result c.loaded_lit-left.ensures in
    let next = c.in_ok-out.ensures.ok.1 in omega (arith, below, next)

pub mux_clauses-requires-clause-b : goal.mux_clauses-requires-clause-b
mux_clauses-requires-clause-b g c =
    let below = c.requires.below c.args.b.at c.loaded_lit-right.result c.loaded_lit-right.ensures in
    let next = c.in_ok-out.ensures.ok.1 in omega (arith, below, next)

pub returns-clause-below : goal.returns-clause-below
returns-clause-below g c = fresh_below _ _ _ c.in_ok-out.ensures.ok.0 (c.in_ok-mux_clauses.ensures.vars ∙ c.in_ok-out.ensures.ok.1)

pub returns-clause-defines : goal.returns-clause-defines
returns-clause-defines g c =
    let test = c.loaded_lit-test.result in
    let left = c.loaded_lit-left.result in
    let right = c.loaded_lit-right.result in
    encodes_mux c.args.lits.now _ _ _ c.in_ok-out.out c.args.c.at c.args.a.at c.args.b.at test left right c.loaded_lit-test.ensures
    c.loaded_lit-left.ensures c.loaded_lit-right.ensures
    (defines_mux _ _ _ _ c.in_ok-out.out test left right (c.requires.below c.args.c.at test c.loaded_lit-test.ensures)
    (c.requires.below c.args.a.at left c.loaded_lit-left.ensures) (c.requires.below c.args.b.at right c.loaded_lit-right.ensures)
    c.in_ok-out.ensures.unused c.in_ok-out.ensures.clauses c.in_ok-out.ensures.ok.0 c.in_ok-mux_clauses.ensures.ok)
