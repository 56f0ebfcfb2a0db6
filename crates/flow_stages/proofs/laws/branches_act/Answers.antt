use Rattle.flow_stages.proofs.OfNodes.{branches_act}
use Rattle.flow_stages.proofs.laws.branches_act.Goals as goal

pub returns : goal.returns
returns k = branches_act
