use Rattle.bit_net.proofs.nodes.Net.known.Goals as goal
use Rattle.bit_net.proofs.FoldLemmas.{Always-constant}

pub returns-in-Constant : goal.returns-in-Constant
returns-in-Constant c = Always-constant c.args.self.now c.args.gate.at c.in-Constant.b c.sound.ensures c.in-Constant.ensures
