use Rattle.std.proofs.Common.{sym}
use Rattle.layout_base.specs.Seen.{ground_of, layout_of}
use Rattle.run_world.specs.Seen.{env}
use Rattle.fn_gates.proofs.Having.{cannot, lacks, has}
use Rattle.fn_gates.proofs.whole.of_few.Goals as goal

pub can_encode-requires-clause-unrolled : goal.can_encode-requires-clause-unrolled
unfolding ground_of
can_encode-requires-clause-unrolled c = c.in_ok-flow.ensures

pub returns-then-not-can-clause-exactly : goal.returns-then-not-can-clause-exactly
unfolding env ground_of
returns-then-not-can-clause-exactly c = cannot _ _ _ _ c.in_ok-lookup.ensures c.in_ok-can.ensures.exactly c.if-not-can.true

pub returns-then-not-have-clause-exactly : goal.returns-then-not-have-clause-exactly
unfolding env ground_of
returns-then-not-have-clause-exactly c =
    lacks _ _ _ _ c.in_ok-flow.flow _ c.new-steps.ensures.source c.new-steps.ensures.layout c.in_ok-flow.ensures
    c.all_have_gates-have.ensures.exactly c.if-not-have.true

pub encoded-made-requires-clause-unrolled : goal.encoded-made-requires-clause-unrolled
unfolding env ground_of
encoded-made-requires-clause-unrolled c = c.in_ok-flow.ensures

pub encoded-made-requires-clause-inputs : goal.encoded-made-requires-clause-inputs
unfolding env layout_of
encoded-made-requires-clause-inputs c = c.in-Ok.ensures.count

pub encoded-made-requires-clause-can : goal.encoded-made-requires-clause-can
unfolding env
encoded-made-requires-clause-can c = rw (sym c.in_ok-lookup.ensures) (c.in_ok-can.ensures.can c.if-not-can.false)

pub returns-in-Ok-made-clause-exactly : goal.returns-in-Ok-made-clause-exactly
unfolding env ground_of
returns-in-Ok-made-clause-exactly c =
    has _ _ _ _ _ c.in_ok-flow.flow _ _ c.new-steps.ensures.source c.new-steps.ensures.layout c.in_ok-lookup.ensures c.requires.few
    c.in_ok-can.ensures.exactly c.if-not-can.false c.in_ok-flow.ensures c.all_have_gates-have.ensures.exactly c.if-not-have.false
