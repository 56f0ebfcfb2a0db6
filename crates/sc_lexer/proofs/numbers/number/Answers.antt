use Rattle.std.proofs.Common.{sym, ◌∙◌, get_or, refl}
use Rattle.sc_lexer.proofs.NumberProofs.{number_stops, number_ends}
use Rattle.sc_lexer.proofs.numbers.number.Goals as goal

pub returns-in_err-number : goal.returns-in_err-number
returns-in_err-number c =
    c.from_residual.ensures ∙ number_stops c.args.base c.loop-digit.number c.args.digits.now c.loop-digit.digit-index
    (get_or c.args.digits.now c.loop-digit.digit-index 0) c.requires c.loop-digit-test.true refl (sym c.in_err-number.ensures.number)
    c.loop-digit.invariant.0

pub returns : goal.returns
returns c = number_ends c.args.base c.loop-digit.number c.args.digits.now c.loop-digit.digit-index c.loop-digit-test.false
    c.loop-digit.invariant.1 c.loop-digit.invariant.0
