use Rattle.flow_stages.proofs.OfNodes.{marks_act}
use Rattle.flow_stages.proofs.laws.marks_act.Goals as goal

pub returns : goal.returns
returns k = marks_act
