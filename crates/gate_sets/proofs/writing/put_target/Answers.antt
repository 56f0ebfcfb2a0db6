use Rattle.gate_sets.proofs.Putting.{puts_target}
use Rattle.gate_sets.proofs.writing.put_target.Goals as goal

pub returns-clause-ok : goal.returns-clause-ok
returns-clause-ok c = puts_target _ c.args.ends.now _ c.args.val.now _ _ c.in_ok-store.ensures.ok
