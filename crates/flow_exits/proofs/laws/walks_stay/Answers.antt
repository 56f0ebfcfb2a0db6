-- By the nodes, one after another.
use Rattle.flow_exits.proofs.Ending.{walk_stays}
use Rattle.flow_exits.proofs.laws.walks_stay.Goals as goal

pub returns : goal.returns
returns c = walk_stays
