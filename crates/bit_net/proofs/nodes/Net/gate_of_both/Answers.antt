use Rattle.bit_net.proofs.nodes.Net.gate_of_both.Goals as goal
use Rattle.bit_net.proofs.FoldLemmas.{Gives-and, Gives-and-turned}

pub returns-in-Some : goal.returns-in-Some
returns-in-Some c = Gives-and c.args.self.now c.in-Some.gate.at c.args.a c.args.b c.sound.ensures c.in-Some.ensures

pub returns-in-Some-gate_with : goal.returns-in-Some-gate_with
returns-in-Some-gate_with c = Gives-and-turned c.args.self.now c.in-Some-gate_with.gate.at c.args.a c.args.b c.sound.ensures c.in-Some-gate_with.ensures
