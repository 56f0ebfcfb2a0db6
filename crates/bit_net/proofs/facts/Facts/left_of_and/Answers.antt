use Rattle.std.proofs.Common.{inl, inr}
use Rattle.std.proofs.lemmas.Option.{slice_get_within}
use Rattle.bit_net.proofs.facts.Facts.left_of_and.Goals as goal
use Rattle.bit_net.proofs.FactLemmas.{seen_same, seen_and_first, seen_and_second, seen_and_none}

pub returns-in-Some-true : goal.returns-in-Some-true
returns-in-Some-true c =
    seen_and_second c.args.net.now c.args.self.now c.args.whole.at c.args.a c.args.b c.in-Some-true.field-0 c.sound.ensures c.requires c.in-Some-true.field-0-test c.in-Some-true.ensures

pub returns-in-Some-false : goal.returns-in-Some-false
returns-in-Some-false c =
    seen_and_none c.args.net.now c.args.self.now c.args.whole.at c.constant.result.at c.args.a c.args.b c.in-Some-false.field-0 c.sound.ensures c.requires c.in-Some-false.field-0-test
    (inl c.in-Some-false.ensures) c.constant.ensures

pub returns-in-Some-true-value_of : goal.returns-in-Some-true-value_of
returns-in-Some-true-value_of c =
    let arm = c.in-Some-true-value_of in
    seen_and_first c.args.net.now c.args.self.now c.args.whole.at c.args.a c.args.b arm.field-0 c.sound.ensures c.requires arm.field-0-test arm.ensures

pub returns-in-Some-false-value_of : goal.returns-in-Some-false-value_of
returns-in-Some-false-value_of c =
    let arm = c.in-Some-false-value_of in
    seen_and_none c.args.net.now c.args.self.now c.args.whole.at c.constant-in-Some-false-value_of.result.at c.args.a c.args.b arm.field-0 c.sound.ensures c.requires arm.field-0-test
    (inr arm.ensures) c.constant-in-Some-false-value_of.ensures

pub returns-in-None-value_of : goal.returns-in-None-value_of
returns-in-None-value_of c = seen_same c.args.net.now c.args.self.now c.args.whole.at (slice_get_within c.args.net.now c.args.whole.at _ c.requires)
