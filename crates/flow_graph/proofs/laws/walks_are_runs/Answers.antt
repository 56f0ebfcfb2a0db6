-- By the runs from each node.
use Rattle.flow_graph.proofs.Walks.{walk_is_run}
use Rattle.flow_graph.proofs.laws.walks_are_runs.Goals as goal

pub returns : goal.returns
returns c = walk_is_run
