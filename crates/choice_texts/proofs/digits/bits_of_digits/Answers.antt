use Rattle.choice_texts.proofs.Hexadecimal.{bits_none, bits_more, bits_all, no_bits}
use Rattle.choice_texts.proofs.digits.bits_of_digits.Goals as goal

pub loop-digit-preserved : goal.loop-digit-preserved
loop-digit-preserved c =
    bits_more c.args.digits.now c.loop-digit.digit-index _ c.loop-digit.bits.items _ c.in-Some.number c.loop-digit-test.true c.loop-digit.invariant
    c.in-Some.ensures c.in_ok-put_bits-in-Some.ensures

pub returns-in-None : goal.returns-in-None
returns-in-None c = no_bits c.args.digits.now c.loop-digit.digit-index _ c.loop-digit-test.true c.in-None.ensures
