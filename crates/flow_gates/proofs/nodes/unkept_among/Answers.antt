use Rattle.std.proofs.Common.{◌∙◌, sym, arith}
use Rattle.flow_gates.proofs.Stepping.{in_numbers, all_numbers}
use Rattle.flow_gates.proofs.nodes.unkept_among.Goals as goal

pub returns-then-not-was_kept : goal.returns-then-not-was_kept
returns-then-not-was_kept c =
    (in_numbers c.args.numbers.first c.args.numbers.count c.loop-k.k c.loop-k-test.true, sym c.was_kept.ensures ∙ c.if-not-was_kept.true)

pub returns : goal.returns
returns c =
    all_numbers c.args.temps.now c.args.numbers.first c.args.numbers.count (λ j low. c.loop-k.invariant j (let out = c.loop-k-test.false in omega arith))
