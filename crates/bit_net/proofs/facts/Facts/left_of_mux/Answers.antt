use Rattle.std.proofs.lemmas.Option.{slice_get_within}
use Rattle.bit_net.proofs.facts.Facts.left_of_mux.Goals as goal
use Rattle.bit_net.proofs.FactLemmas.{seen_same, seen_mux_true, seen_mux_false}

pub returns-in-Some-true : goal.returns-in-Some-true
returns-in-Some-true c =
    seen_mux_true c.args.net.now c.args.self.now c.args.whole.at c.args.c c.args.a c.args.b c.in-Some-true.field-0 c.sound.ensures c.requires c.in-Some-true.field-0-test c.in-Some-true.ensures

pub returns-in-Some-false : goal.returns-in-Some-false
returns-in-Some-false c =
    seen_mux_false c.args.net.now c.args.self.now c.args.whole.at c.args.c c.args.a c.args.b c.in-Some-false.field-0 c.sound.ensures c.requires c.in-Some-false.field-0-test c.in-Some-false.ensures

pub returns-in-None : goal.returns-in-None
returns-in-None c = seen_same c.args.net.now c.args.self.now c.args.whole.at (slice_get_within c.args.net.now c.args.whole.at _ c.requires)
