use Rattle.bit_net.proofs.facts.Facts.follow.Goals as goal
use Rattle.bit_net.proofs.FactLemmas.{Learns-not, Learns-and, Learns-or}

pub returns-in-Not : goal.returns-in-Not
returns-in-Not c = Learns-not c.args.net.now c.args.fact.gate.at c.in-Not.a c.args.fact.holds _ _ c.sound.ensures c.in-Not.ensures c.add.ensures

pub returns-in-And : goal.returns-in-And
returns-in-And c = Learns-and c.args.net.now c.args.fact.gate.at c.in-And.a c.in-And.b c.args.fact.holds _ _ c.sound.ensures c.in-And.ensures c.if-fact.true c.add_both.ensures

pub returns-in-Or : goal.returns-in-Or
returns-in-Or c =
    Learns-or c.args.net.now c.args.fact.gate.at c.in-Or.a c.in-Or.b c.args.fact.holds _ _ c.sound.ensures c.in-Or.ensures c.if-not-fact.true c.add_both-in-Or.ensures
