use Rattle.std.proofs.lemmas.Option.{slice_get_within}
use Rattle.bit_net.proofs.facts.Facts.left_of_not.Goals as goal
use Rattle.bit_net.proofs.FactLemmas.{seen_same, seen_not}

pub returns-in-Some : goal.returns-in-Some
returns-in-Some c = seen_not c.args.net.now c.args.self.now c.args.whole.at c.constant.result.at c.args.a c.in-Some.b c.sound.ensures c.requires c.in-Some.ensures c.constant.ensures

pub returns-in-None : goal.returns-in-None
returns-in-None c = seen_same c.args.net.now c.args.self.now c.args.whole.at (slice_get_within c.args.net.now c.args.whole.at _ c.requires)
