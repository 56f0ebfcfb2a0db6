use Rattle.gate_sets.proofs.Stating.{sets_state}
use Rattle.gate_sets.proofs.states.set_state.Goals as goal

pub returns-clause-ok : goal.returns-clause-ok
returns-clause-ok c =
    sets_state _ _ _ _ _ _ c.args.ends.now c.args.lock.now c.in_ok-after.after _ _ _ _ c.in_ok-states.ensures.grown c.in_ok-put_target.ensures.grown
    c.in_ok-mark_target.ensures.grown c.in_ok-after.ensures.ok c.in_ok-states.ensures.ok c.in_ok-put_target.ensures.ok c.in_ok-mark_target.ensures.ok
