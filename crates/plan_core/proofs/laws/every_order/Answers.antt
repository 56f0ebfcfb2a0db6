-- By recursion on the events.
use Rattle.plan_core.proofs.Orders.{sound_always, once_always, callees_first_always}
use Rattle.plan_core.proofs.laws.every_order.Goals as goal

pub returns-clause-sound : goal.returns-clause-sound
returns-clause-sound c = sound_always

pub returns-clause-once : goal.returns-clause-once
returns-clause-once c = once_always

pub returns-clause-callees_first : goal.returns-clause-callees_first
returns-clause-callees_first c = callees_first_always
