-- By the kinds of nodes.
use Rattle.flow_exits.proofs.Staying.{stay}
use Rattle.flow_exits.proofs.laws.nodes_stay.Goals as goal

pub returns : goal.returns
returns c = stay
