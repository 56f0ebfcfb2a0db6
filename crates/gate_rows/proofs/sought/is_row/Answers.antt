use Rattle.gate_rows.proofs.Seeking.{row_gate}
use Rattle.gate_rows.proofs.sought.is_row.Goals as goal

pub returns-clause-ok : goal.returns-clause-ok
returns-clause-ok c =
    row_gate _ _ _ _ _ _ _ c.args.sought.now c.args.row _ _ _ _ _ _ _ c.in_ok-before.ensures.grown c.in_ok-gives.ensures.grown c.in_ok-after.ensures.grown
    c.in_ok-end.ensures.grown c.in_ok-states.ensures.grown c.in_ok-r.ensures.grown c.in_ok-given.ensures.ok c.in_ok-before.ensures.ok c.in_ok-gives.ensures.ok
    c.in_ok-after.ensures.ok c.in_ok-end.ensures.ok c.in_ok-states.ensures.ok c.in_ok-r.ensures.ok
