use Rattle.bit_net.proofs.lanes.lanes_stay.Goals as goal
use Rattle.bit_net.proofs.LaneLemmas.{lanes-grown}

pub returns : goal.returns
returns c = lanes-grown
