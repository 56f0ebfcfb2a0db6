use Rattle.gate_rows.proofs.Seeking.{none_gate}
use Rattle.gate_rows.proofs.sought.stays.Goals as goal

pub returns-clause-ok : goal.returns-clause-ok
returns-clause-ok c =
    none_gate _ _ _ _ _ _ c.args.bits.now _ _ _ _ _ _ c.in_ok-fresh.ensures.grown c.in_ok-other.ensures.grown c.in_ok-object.ensures.grown
    c.in_ok-some.ensures.grown
    c.in_ok-r.ensures.grown c.in_ok-null.ensures.ok c.in_ok-fresh.ensures.ok c.in_ok-other.ensures.ok c.in_ok-object.ensures.ok c.in_ok-some.ensures.ok
    c.in_ok-r.ensures.ok
