use Rattle.bit_net.proofs.LiteralLemmas.{xor_first, xor_second}
use Rattle.bit_net.proofs.nodes.Net.other_operand.Goals as goal

pub returns-in-Xor : goal.returns-in-Xor
returns-in-Xor c = xor_second c.args.self.now c.args.whole.at c.args.part.at c.in-Xor.x c.in-Xor.y c.sound.ensures c.in-Xor.ensures c.if-x-part.true

pub returns-in-Xor-2 : goal.returns-in-Xor-2
returns-in-Xor-2 c = xor_first c.args.self.now c.args.whole.at c.args.part.at c.in-Xor.x c.in-Xor.y c.sound.ensures c.in-Xor.ensures c.if-y-part.true
