use Rattle.std.proofs.Common.{◌+◌, ◌*◌, drop, sym, ◌∙◌, arith}
use Rattle.line_marks.proofs.Numbers.{number_more, number_too_large}
use Rattle.line_marks.proofs.markers.line_number.Goals as goal

pub returns-then-number-from : goal.returns-then-number-from
returns-then-number-from c =
    let ds = c.args.digits.now in
    let more = number_more c.loop-digit.number ds c.loop-digit.digit-index c.from.result c.loop-digit-test.true (c.from.ensures ∙ c.saturating_sub.ensures) in
    number_too_large ds (drop (c.loop-digit.digit-index + 1) ds) (10 * c.loop-digit.number + c.from.result) (omega arith) (sym more ∙ c.loop-digit.invariant.0)

pub loop-digit-preserved : goal.loop-digit-preserved
loop-digit-preserved c =
    let ds = c.args.digits.now in
    let more = number_more c.loop-digit.number ds c.loop-digit.digit-index c.from.result c.loop-digit-test.true (c.from.ensures ∙ c.saturating_sub.ensures) in
    (sym more ∙ c.loop-digit.invariant.0, omega arith)
