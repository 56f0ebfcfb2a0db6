use Rattle.std.proofs.Common.{◌≡◌, ◌∙◌, ◌+◌, ◌-◌, ◌*◌, drop, get_or}
use Rattle.std.proofs.lemmas.List.{at_drop_more}
use Rattle.drat_text.specs.Numbers.{decimal}
use Rattle.drat_text.proofs.NumberLemmas.{too_great}
use Rattle.drat_text.proofs.numbers.number.Goals as goal

pub returns-then-value-gt-GREATEST : goal.returns-then-value-gt-GREATEST
returns-then-value-gt-GREATEST c =
    let word = c.args.word.now in
    let i = c.loop-digit.digit-index in
    let next : decimal c.loop-digit.value (drop i word) ≡ decimal (10 * c.loop-digit.value + (get_or word i 0 - 48)) (drop (i + 1) word) =
    at_drop_more (decimal c.loop-digit.value) word i 0 c.loop-digit-test.true in
    too_great word (drop (i + 1) word) _ c.if-value-gt-GREATEST.true (c.loop-digit.invariant.number ∙ next)
