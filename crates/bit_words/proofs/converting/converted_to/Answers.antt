use Rattle.std.proofs.Common.{◌∙◌, arith}
use Rattle.std.proofs.lemmas.List.{take_rest}
use Rattle.bit_words.proofs.MoveLemmas.{Converted-cut, Converted-widened}
use Rattle.bit_words.proofs.converting.converted_to.Goals as goal

pub returns-then-width-a : goal.returns-then-width-a
returns-then-width-a c =
    Converted-cut c.args.net.now c.args.a.now c.in_ok-bits.bits.items c.args.signed c.args.width c.requires.some c.requires.a c.if-width-a.true (c.in_ok-bits.ensures.items ∙ take_rest c.args.a.now _)

pub returns : goal.returns
returns c =
    Converted-widened c.args.net.now c.args.a.now c.in_ok-bits-2.bits.items c.extend_from_slice.new.self.items c.args.signed c.args.width c.bit_above-above.result.at c.requires.some c.requires.a
    (omega arith) c.in_ok-extend_from_slice.ensures.items c.in_ok-bits-2.ensures c.bit_above-above.ensures.value
