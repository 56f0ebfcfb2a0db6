-- By the order in which nodes are made.
use Rattle.flow_graph.proofs.Ways.{was_kept}
use Rattle.flow_graph.proofs.laws.what_is_read_was_kept.Goals as goal

pub returns : goal.returns
returns c = was_kept
