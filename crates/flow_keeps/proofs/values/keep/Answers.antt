use Rattle.flow_keeps.proofs.Valued.{kept_value}
use Rattle.flow_keeps.proofs.Called.{kept_call}
use Rattle.flow_keeps.proofs.Updated.{kept_update}
use Rattle.flow_keeps.proofs.values.keep.Goals as goal

pub returns-clause-value : goal.returns-clause-value
returns-clause-value c = kept_value _ _ _ _ _ _ _ _ c.in_ok-settle.ensures.ok

pub returns-clause-call : goal.returns-clause-call
returns-clause-call c = kept_call _ _ _ _ _ _ _ _ c.in_ok-settle.ensures.ok

pub returns-clause-update : goal.returns-clause-update
returns-clause-update c = kept_update _ _ _ _ _ _ _ _ c.in_ok-settle.ensures.ok
