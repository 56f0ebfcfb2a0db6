use Rattle.bit_net.proofs.FoldLemmas.{Gives-inner}
use Rattle.bit_net.proofs.LiteralLemmas.{literal_true, literal_not}
use Rattle.bit_net.proofs.nodes.Net.literal.Goals as goal

pub returns-in-Constant-true-clause-value : goal.returns-in-Constant-true-clause-value
returns-in-Constant-true-clause-value c =
    literal_true c.args.self.now c.args.gate.at c.constant.result.at c.in-Constant-true.field-0 c.sound.ensures c.in-Constant-true.ensures
    c.in-Constant-true.field-0-test c.constant.ensures

pub returns-in-Not-clause-below : goal.returns-in-Not-clause-below
returns-in-Not-clause-below c = (Gives-inner c.args.self.now c.args.gate.at c.in-Not.inner c.sound.ensures c.in-Not.ensures).below

pub returns-in-Not-clause-value : goal.returns-in-Not-clause-value
returns-in-Not-clause-value c = literal_not c.args.self.now c.args.gate.at c.in-Not.inner c.sound.ensures c.in-Not.ensures
