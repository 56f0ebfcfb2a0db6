use Rattle.run_world.specs.Seen.{env}
use Rattle.gate_acts.proofs.Taking.{does_try}
use Rattle.gate_acts.proofs.tries.try_lock.Goals as goal

pub returns-clause-ok : goal.returns-clause-ok
unfolding env
returns-clause-ok c =
    does_try _ _ _ _ _ _ _ _ c.args.trying.bit c.args.trying.success c.args.trying.failure c.in_ok-is_had.is_had.at c.args.val.now _ c.in_ok-pointer.pointer.pairs.items _ _ _ _ _
    c.in_ok-reach.ensures.grown c.in_ok-mark.ensures.grown c.in_ok-is_had.ensures.grown c.in_ok-r.ensures.grown c.in_ok-pointer.ensures c.in_ok-reach.ensures.ok c.in_ok-mark.ensures.ok
    c.in_ok-is_had.ensures.ok c.in_ok-r.ensures.ok
