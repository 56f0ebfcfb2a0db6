use Rattle.gate_sets.proofs.Pointing.{sets_out}
use Rattle.gate_sets.proofs.outs.set_out.Goals as goal

pub returns-clause-ok : goal.returns-clause-ok
returns-clause-ok c =
    sets_out _ _ _ _ _ _ _ c.args.ends.now c.args.out.now c.in_ok-cell.cell _ _ _ _ _ c.in_ok-at.ensures.grown c.in_ok-store_target.ensures.grown
    c.in_ok-mark_object.ensures.grown c.in_ok-mark_object-2.ensures.grown c.in_ok-cell.ensures.ok c.in_ok-at.ensures.ok c.in_ok-store_target.ensures.ok
    c.in_ok-mark_object.ensures.ok c.in_ok-mark_object-2.ensures.ok
