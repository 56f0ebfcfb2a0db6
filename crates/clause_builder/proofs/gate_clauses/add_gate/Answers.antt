-- The clauses of a gate speak of the literals that stand for gates.
use Rattle.clause_builder.proofs.gate_clauses.add_gate.Goals as goal

pub returns-in-Not-clause-fresh : goal.returns-in-Not-clause-fresh
returns-in-Not-clause-fresh g c base all =
    let below = rw c.in-Not.is at c.requires.operands in
    c.not_clauses.ensures.fresh base (all c.args.gate _ c.requires.gate) (all c.in-Not.a.at _ below)

pub returns-in-And-clause-fresh : goal.returns-in-And-clause-fresh
returns-in-And-clause-fresh g c base all =
    let below = rw c.in-And.is at c.requires.operands in
    c.and_clauses.ensures.fresh base (all c.args.gate _ c.requires.gate) (all c.in-And.a.at _ below.0) (all c.in-And.b.at _ below.1)

pub returns-in-Or-clause-fresh : goal.returns-in-Or-clause-fresh
returns-in-Or-clause-fresh g c base all =
    let below = rw c.in-Or.is at c.requires.operands in
    c.or_clauses.ensures.fresh base (all c.args.gate _ c.requires.gate) (all c.in-Or.a.at _ below.0) (all c.in-Or.b.at _ below.1)

pub returns-in-Xor-clause-fresh : goal.returns-in-Xor-clause-fresh
returns-in-Xor-clause-fresh g c base all =
    let below = rw c.in-Xor.is at c.requires.operands in
    c.xor_clauses.ensures.fresh base (all c.args.gate _ c.requires.gate) (all c.in-Xor.a.at _ below.0) (all c.in-Xor.b.at _ below.1)

pub returns-in-Mux-clause-fresh : goal.returns-in-Mux-clause-fresh
returns-in-Mux-clause-fresh g c base all =
    let below = rw c.in-Mux.is at c.requires.operands in
    c.mux_clauses.ensures.fresh base (all c.args.gate _ c.requires.gate) (all c.in-Mux.c.at _ below.0) (all c.in-Mux.a.at _ below.1) (all c.in-Mux.b.at _ below.2)
