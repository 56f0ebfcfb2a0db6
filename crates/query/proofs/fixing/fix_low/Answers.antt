-- Where no model has the bit false, it is put in place of its negation.
use Rattle.std.proofs.Common.{◌≡◌, List, [], ◌∷◌, ◌++◌, length, sym, ap, ◌∙◌, arith}
use Rattle.sat_base.specs.declared.literal.Lit.{Lit}
use Rattle.sat_base.specs.Logic.{negation}
use Rattle.query.proofs.Fixed.{below_push, bit_below, set_last, forced_high, seen_low, seen_forced}
use Rattle.query.proofs.fixing.fix_low.Goals as goal

pub returns-then-not-index-clause-last : goal.returns-then-not-index-clause-last
returns-then-not-index-clause-last g c =
    seen_low _ c.args.fixed.now.items _ c.args.bits.now _ c.args.place c.args.bit _ c.requires.last c.requires.bit (sym c.index.ensures ∙ c.if-not-index.true) (c.in_ok-push.ensures.items ∙ ap (λ l. c.args.fixed.now.items ++ l ∷ []) c.negated.ensures)

pub model_of-requires-clause-fixed : goal.model_of-requires-clause-fixed
model_of-requires-clause-fixed g c =
    below_push _ c.args.fixed.now.items _ (negation c.args.bit) (c.as_slice.ensures.value ∙ c.in_ok-push.ensures.items ∙ ap (λ l. c.args.fixed.now.items ++ l ∷ []) c.negated.ensures) c.requires.fixed
    (bit_below _ c.args.bits.now c.args.place c.args.bit c.requires.bits c.requires.bit)

pub returns-in-None-clause-items : goal.returns-in-None-clause-items
returns-in-None-clause-items g c =
    let end : length c.args.fixed.now.items ≡ c.len-end.result = omega arith in
    set_last _ _ c.len-end.result _ c.args.bit c.in_ok-push.ensures.items end

pub returns-in-None-clause-last : goal.returns-in-None-clause-last
returns-in-None-clause-last g c =
    let end : length c.args.fixed.now.items ≡ c.len-end.result = omega arith in
    seen_forced _ _ c.as_slice.result.now _ c.args.bits.now _ c.args.bit (c.as_slice.ensures.value ∙ c.in_ok-push.ensures.items ∙ ap (λ l. c.args.fixed.now.items ++ l ∷ []) c.negated.ensures)
    (rw c.in-None.is at c.in_ok-values.ensures.found) (set_last _ _ c.len-end.result _ c.args.bit c.in_ok-push.ensures.items end) c.requires.last

pub returns-in-None-clause-forced : goal.returns-in-None-clause-forced
returns-in-None-clause-forced g c high =
    forced_high _ _ c.as_slice.result.now c.args.bit (c.as_slice.ensures.value ∙ c.in_ok-push.ensures.items ∙ ap (λ l. c.args.fixed.now.items ++ l ∷ []) c.negated.ensures) (rw c.in-None.is at c.in_ok-values.ensures.found)
