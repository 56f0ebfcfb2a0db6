-- By the order in which nodes are made.
use Rattle.flow_graph.proofs.Ways.{are_fine}
use Rattle.flow_graph.proofs.laws.nodes_are_fine.Goals as goal

pub returns : goal.returns
returns c = are_fine
