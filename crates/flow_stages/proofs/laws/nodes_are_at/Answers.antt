use Rattle.flow_stages.proofs.OfNodes.{nodes_are_at, nodes_go_on_at, nodes_are_fine_at}
use Rattle.flow_stages.proofs.laws.nodes_are_at.Goals as goal

pub returns-clause-at : goal.returns-clause-at
returns-clause-at k = nodes_are_at

pub returns-clause-on : goal.returns-clause-on
returns-clause-on k = nodes_go_on_at

pub returns-clause-fine : goal.returns-clause-fine
returns-clause-fine k = nodes_are_fine_at
