use Rattle.bit_net.proofs.lanes.mux.Goals as goal
use Rattle.bit_net.proofs.LaneLemmas.{bit-mux}

pub returns : goal.returns
returns c = λ k h. bit-mux c.args.c c.args.a c.args.b k c.ranges.c.fits h
