use Rattle.gate_steps.proofs.Places.{does_store}
use Rattle.gate_steps.proofs.steps.store.Goals as goal

pub returns-clause-ok : goal.returns-clause-ok
returns-clause-ok c =
    does_store _ _ c.args.ends.now _ c.args.val.now _ _ _ c.in_ok-mark_where.ensures.grown c.in_ok-store.ensures.ok c.in_ok-mark_where.ensures.ok
