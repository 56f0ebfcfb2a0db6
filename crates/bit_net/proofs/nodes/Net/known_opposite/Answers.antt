use Rattle.bit_net.proofs.nodes.Net.known_opposite.Goals as goal
use Rattle.bit_net.proofs.FoldLemmas.{Gives-opposite, Gives-inner}

pub returns-in-Constant : goal.returns-in-Constant
returns-in-Constant c = Gives-opposite c.args.self.now c.args.gate.at c.constant.result.at c.in-Constant.b c.sound.ensures c.in-Constant.ensures c.constant.ensures

pub returns-in-Not : goal.returns-in-Not
returns-in-Not c = Gives-inner c.args.self.now c.args.gate.at c.in-Not.inner c.sound.ensures c.in-Not.ensures
