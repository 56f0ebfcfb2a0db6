use Rattle.std.proofs.Common.{arith}
use Rattle.gate_inits.proofs.CellsSet.{blanked, blank_none}
use Rattle.gate_inits.proofs.filling.clear_cell.Goals as goal

pub returns-clause-ok : goal.returns-clause-ok
returns-clause-ok c =
    blanked _ _ _ _ c.args.ends.now c.args.target c.one-at.result.pairs.items c.in_ok-val.val _ _ _ (omega (arith, c.if-target-eq0.false)) c.in_ok-store.ensures.grown c.width_at.ensures c.in_ok-val.ensures
    c.one-at.ensures.points c.in_ok-store.ensures.ok
