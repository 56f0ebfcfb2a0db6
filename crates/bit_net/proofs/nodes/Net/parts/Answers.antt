use Rattle.bit_net.proofs.LiteralLemmas.{operands_and, operands_or, parts_and, parts_or}
use Rattle.bit_net.proofs.nodes.Net.parts.Goals as goal

pub literal-requires : goal.literal-requires
literal-requires c = (operands_and c.args.self.now c.args.whole.gate.at c.in-And.a c.in-And.b c.sound.ensures c.in-And.ensures).0

pub literal-requires-in-And : goal.literal-requires-in-And
literal-requires-in-And c = (operands_and c.args.self.now c.args.whole.gate.at c.in-And.a c.in-And.b c.sound.ensures c.in-And.ensures).1

pub literal-requires-in-Or : goal.literal-requires-in-Or
literal-requires-in-Or c = (operands_or c.args.self.now c.args.whole.gate.at c.in-Or.a c.in-Or.b c.sound.ensures c.in-Or.ensures).0

pub literal-requires-in-Or-2 : goal.literal-requires-in-Or-2
literal-requires-in-Or-2 c = (operands_or c.args.self.now c.args.whole.gate.at c.in-Or.a c.in-Or.b c.sound.ensures c.in-Or.ensures).1

pub returns-in-And : goal.returns-in-And
returns-in-And c =
    parts_and c.args.self.now c.args.whole c.literal.result c.literal-in-And.result c.in-And.a c.in-And.b c.sound.ensures c.in-And.ensures
    c.if-not-whole.true c.literal.ensures.value c.literal-in-And.ensures.value

pub returns-in-Or : goal.returns-in-Or
returns-in-Or c =
    parts_or c.args.self.now c.args.whole c.opposite.result c.opposite-in-Or.result c.literal-in-Or.result c.literal-in-Or-2.result c.in-Or.a c.in-Or.b
    c.sound.ensures c.in-Or.ensures c.if-whole.true c.opposite.ensures.value c.opposite-in-Or.ensures.value c.literal-in-Or.ensures.value
    c.literal-in-Or-2.ensures.value
