use Rattle.bit_net.proofs.nodes.Net.shared.Goals as goal
use Rattle.bit_net.proofs.FoldLemmas.{AreAsBoth-first, AreAsBoth-second}

pub returns-in-Some : goal.returns-in-Some
returns-in-Some c =
    AreAsBoth-first c.args.self.now c.args.a.at c.args.b.at c.in-Some.one.at c.in-And.x c.in-And.y c.sound.ensures c.in-And.ensures c.in-Some.ensures

pub returns-in-Some-gate_of_both : goal.returns-in-Some-gate_of_both
returns-in-Some-gate_of_both c =
    AreAsBoth-second c.args.self.now c.args.a.at c.args.b.at c.in-Some-gate_of_both.one.at c.in-And.x c.in-And.y c.sound.ensures c.in-And.ensures
    c.in-Some-gate_of_both.ensures
