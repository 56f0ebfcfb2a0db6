-- The gate is loaded, or it was, or it is not marked.
use Rattle.clause_builder.proofs.Marks.{open_parts, loaded_unless_open}
use Rattle.clause_builder.proofs.marked.load_if_marked.Goals as goal

pub returns-then-not-is_open-clause-here : goal.returns-then-not-is_open-clause-here
returns-then-not-is_open-clause-here g c marked =
    loaded_unless_open c.args.marks.now c.args.lits.now.items c.args.at c.is_open.result (rw c.as_slice.ensures.value at c.is_open.ensures) c.if-not-is_open.true marked

pub load_gate-requires-clause-missing : goal.load_gate-requires-clause-missing
load_gate-requires-clause-missing g c =
    (open_parts c.args.marks.now c.args.lits.now.items c.args.at c.is_open.result (rw c.as_slice.ensures.value at c.is_open.ensures) c.if-not-is_open.false).1

pub load_gate-requires-clause-operands : goal.load_gate-requires-clause-operands
load_gate-requires-clause-operands g c n here =
    let parts = open_parts c.args.marks.now c.args.lits.now.items c.args.at c.is_open.result (rw c.as_slice.ensures.value at c.is_open.ensures) c.if-not-is_open.false in
    c.requires.operands n here parts.0 parts.1
