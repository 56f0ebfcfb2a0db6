use Rattle.gate_acts.proofs.Taking.{does_take}
use Rattle.gate_acts.proofs.tries.take.Goals as goal

pub returns-clause-ok : goal.returns-clause-ok
returns-clause-ok c =
    does_take _ _ _ _ _ c.args.bit c.in_ok-is_had.is_had.at c.in_ok-when.when.at c.args.pointer.now.pairs.items _ _ c.args.ends.now c.in_ok-when.ensures.grown c.in_ok-lock_each.ensures.grown
    c.in_ok-is_had.ensures.ok c.in_ok-when.ensures.ok _ c.as_slice.ensures c.in_ok-lock_each.ensures.ok
