use Rattle.gate_fails.proofs.Erring.{does_err}
use Rattle.gate_fails.proofs.errors.err.Goals as goal

pub returns-clause-ok : goal.returns-clause-ok
returns-clause-ok c =
    does_err _ _ _ _ _ _ c.args.given.now c.in_ok-before.before.bits.items c.args.item.now c.in_ok-errs_at.errs_at.pairs.items c.in_ok-in_rows.in_rows.at _ _
    c.args.ends.now _ c.in_ok-before.ensures.grown c.in_ok-in_rows.ensures.grown c.in_ok-err_target.ensures.grown c.in_ok-errs_at.ensures.ok
    c.in_ok-before.ensures.ok (rw (← c.deref.ensures.value) c.in_ok-in_rows.ensures.ok) c.in_ok-err_target.ensures.ok
