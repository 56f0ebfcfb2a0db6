use Rattle.gate_sets.proofs.Putting.{stores_target}
use Rattle.gate_sets.proofs.writing.store_target.Goals as goal

pub returns-clause-ok : goal.returns-clause-ok
returns-clause-ok c =
    stores_target _ _ c.args.ends.now _ c.args.val.now _ _ _ c.in_ok-mark_target.ensures.grown c.in_ok-put_target.ensures.ok c.in_ok-mark_target.ensures.ok
