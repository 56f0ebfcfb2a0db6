use Rattle.gate_entry.proofs.Making.{laid_out, is_entered}
use Rattle.gate_entry.proofs.entry.entered.Goals as goal

pub returns-clause-ok : goal.returns-clause-ok
returns-clause-ok c =
    is_entered _ _ _ _ _ _ _ _ _ (laid_out c.args.here.now c.as_slice.result.now c.as_slice.ensures.value)
    (laid_out c.args.here.now c.as_slice-2.result.now c.as_slice-2.ensures.value) c.new-locations.ensures.items c.in_ok-push_states.ensures.grown
    c.in_ok-push_cells.ensures.ok c.in_ok-push_states.ensures.ok
