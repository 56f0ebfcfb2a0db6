use Rattle.gate_steps.proofs.Places.{does_load}
use Rattle.gate_steps.proofs.steps.load.Goals as goal

pub returns-clause-ok : goal.returns-clause-ok
returns-clause-ok c = does_load _ _ _ _ _ c.in_ok-val.ensures.ok
