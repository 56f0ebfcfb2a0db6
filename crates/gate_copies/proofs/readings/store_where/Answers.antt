use Rattle.gate_copies.proofs.Putting.{stored_where}
use Rattle.gate_copies.proofs.readings.store_where.Goals as goal

pub returns-clause-ok : goal.returns-clause-ok
returns-clause-ok c =
    stored_where _ _ _ c.args.live.at c.in_ok-when.when.at c.args.at.now.pairs.items c.args.guarded.now _ _ _ c.in_ok-store.ensures.grown
    c.in_ok-mark_where.ensures.grown c.in_ok-when.ensures.ok c.in_ok-store.ensures.ok c.in_ok-mark_where.ensures.ok
