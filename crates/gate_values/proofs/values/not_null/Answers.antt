use Rattle.gate_values.proofs.Truths.{set_truth}
use Rattle.gate_values.proofs.values.not_null.Goals as goal

pub returns-clause-ok : goal.returns-clause-ok
returns-clause-ok c = set_truth _ _ c.args.a.now _ _ c.in_ok-some.ensures.grown c.points-null.ensures c.in_ok-some.ensures.ok
