-- By the order in which nodes are made.
use Rattle.flow_types.proofs.Whole.{of_one_type}
use Rattle.flow_types.proofs.laws.temps_are_of_one_type.Goals as goal

pub returns : goal.returns
returns c = of_one_type
