use Rattle.gate_acts.proofs.Taking.{is_had}
use Rattle.gate_acts.proofs.tries.had.Goals as goal

pub returns-clause-ok : goal.returns-clause-ok
returns-clause-ok c =
    is_had _ _ _ _ _ c.args.pointer.now.pairs.items _ c.in_ok-tests.tests.items _ c.args.bit _ _ _ c.in_ok-is_open.ensures.grown c.in_ok-r.ensures.grown c.as_slice.ensures
    c.as_slice-2.ensures.value c.in_ok-tests.ensures.ok c.in_ok-is_open.ensures.ok c.chosen_bit-chosen.ensures c.in_ok-r.ensures.ok
