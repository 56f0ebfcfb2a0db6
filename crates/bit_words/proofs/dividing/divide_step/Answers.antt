use Rattle.std.proofs.Common.{◌∙◌, ◌-◌, length, ◌++◌, ◌∷◌, [], ap, arith, drop}
use Rattle.std.proofs.lemmas.List.{take_rest}
use Rattle.bit_words.specs.Number.{top}
use Rattle.bit_words.proofs.NumberLemmas.{top-push, top-tail}
use Rattle.bit_words.proofs.ProductLemmas.{DivideStep-is}
use Rattle.bit_words.proofs.dividing.divide_step.Goals as goal

pub select-requires-clause-b : goal.select-requires-clause-b
select-requires-clause-b c =
    let made = c.in_ok-push.ensures.items ∙ ap (λ l. l ++ c.args.bit ∷ []) c.in_ok-longer.ensures.items in
    omega (arith, top-tail c.deref-4.result.now 1 (length c.deref-4.result.now - 1), ap top (c.deref-4.ensures.value ∙ made), top-push c.args.rest.now c.args.bit, c.in_ok-difference.ensures.grown.longer, c.in_ok-goes.ensures.grown.longer)

pub returns-clause-ok : goal.returns-clause-ok
returns-clause-ok c =
    DivideStep-is c.difference_of.new.net c.and.new.self c.select.new.net c.args.rest.now c.args.divisor.now c.push.new.self.items c.deref.result.now c.extend_from_slice.new.self.items c.deref-2.result.now
    c.in_ok-difference.difference.bits.items _ _ c.in_ok-rest.rest.items c.args.bit c.constant.result c.in_ok-difference.difference.carry.at c.in_ok-goes.goes.at c.args.divides.at
    c.requires.same
    (c.in_ok-push.ensures.items ∙ ap (λ l. l ++ c.args.bit ∷ []) c.in_ok-longer.ensures.items) c.deref.ensures.value
    (c.in_ok-extend_from_slice.ensures.items ∙ ap (λ l. l ++ c.args.divisor.now) c.in_ok-wide.ensures.items) c.deref-2.ensures.value
    c.in_ok-difference.ensures.ok c.in_ok-goes.ensures.grown c.in_ok-rest.ensures.grown c.in_ok-goes.ensures.ok.below c.in_ok-goes.ensures.ok.value
    (λ choice v r. c.constant.ensures.value choice v (c.in_ok-difference.ensures.grown.runs choice v r))
    (take_rest c.deref-3.result.now 1 ∙ ap (drop 1) c.deref-3.ensures.value) (take_rest c.deref-4.result.now 1 ∙ ap (drop 1) c.deref-4.ensures.value)
    c.in_ok-rest.ensures.ok
