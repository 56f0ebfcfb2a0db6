use Rattle.gate_sets.proofs.Filling.{sets_written}
use Rattle.gate_sets.proofs.writes.set_written.Goals as goal

pub returns-clause-ok : goal.returns-clause-ok
returns-clause-ok c =
    sets_written _ _ _ _ _ c.args.ends.now c.args.x.now c.in_ok-cell.cell _ _ _ c.in_ok-at.ensures.grown c.in_ok-store_target.ensures.grown
    c.in_ok-cell.ensures.ok c.in_ok-at.ensures.ok c.in_ok-store_target.ensures.ok
