-- Piece by piece.
use Rattle.flow_sizes.proofs.Small.{graphs_small}
use Rattle.flow_sizes.proofs.laws.graphs_are_small.Goals as goal

pub returns : goal.returns
returns c = graphs_small
