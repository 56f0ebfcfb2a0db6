use Rattle.gate_steps.proofs.Places.{does_mark}
use Rattle.gate_steps.proofs.steps.mark.Goals as goal

pub returns-clause-ok : goal.returns-clause-ok
returns-clause-ok c = does_mark _ c.args.ends.now _ c.args.flag _ _ c.in_ok-mark_where.ensures.ok
