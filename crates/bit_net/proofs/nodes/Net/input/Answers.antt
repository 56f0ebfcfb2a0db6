use Rattle.bit_net.proofs.nodes.Net.input.Goals as goal
use Rattle.bit_net.proofs.FoldLemmas.{Gives-input}

pub returns : goal.returns
returns c = Gives-input c.args.self.now c.args.k c.sound.ensures c.requires
