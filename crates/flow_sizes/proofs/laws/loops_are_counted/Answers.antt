-- Turn by turn.
use Rattle.flow_sizes.proofs.Counted.{counted}
use Rattle.flow_sizes.proofs.laws.loops_are_counted.Goals as goal

pub returns : goal.returns
returns c = counted
