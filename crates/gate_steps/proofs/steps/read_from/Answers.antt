use Rattle.gate_steps.proofs.Places.{does_read, does_read_none}
use Rattle.gate_steps.proofs.steps.read_from.Goals as goal

pub returns-in_ok-val : goal.returns-in_ok-val
returns-in_ok-val c = does_read _ c.args.locations.now c.args.at _ _ c.if-at-locations.true c.requires c.in_ok-val.ensures

pub returns-else-at-locations : goal.returns-else-at-locations
returns-else-at-locations c = does_read_none _ c.args.locations.now c.args.at c.if-at-locations.false
