use Rattle.std.proofs.Common.{◌≡◌, ◌∙◌, ℕ, Bool, ap, length, sym, refl, arith, take, ◌+◌}
use Rattle.std.proofs.lemmas.Grind.{common_steps}
use Rattle.bit_net.specs.Runs.{Runs}
use Rattle.bit_words.specs.Number.{number, quotient, remainder}
use Rattle.bit_words.proofs.NumberLemmas.{bound_laws}
use Rattle.bit_net.proofs.Growth.{Grown-trans}
use Rattle.bit_words.proofs.ProductLemmas.{division_none, division_step}
use Rattle.bit_words.proofs.dividing.divide.Goals as goal

zero_rest : (c : goal.After-new-quotient) (choice v : ℕ → Bool) → Runs c.nonzero.new.net choice v → number v c.in_ok-rest.rest.items ≡ 0
zero_rest c choice v r =
    let before = c.in_ok-divides.ensures.grown.runs choice v r in
    c.in_ok-rest.ensures.value choice v before ∙ rw (c.constant.ensures.value choice v before) refl

pub loop-i-init : goal.loop-i-init
loop-i-init c = record {
  grown = c.in_ok-divides.ensures.grown;
  result_wide = grind (arith, common_steps, bound_laws);
  rest_wide = c.in_ok-rest.ensures.wide ∙ sym c.requires.same;
  result_below = grind (arith, common_steps, bound_laws);
  rest_below = omega (arith, c.in_ok-rest.ensures.below, c.in_ok-divides.ensures.grown.longer);
  divides_below = c.in_ok-divides.ensures.ok.below;
  divides = record { holds = c.in_ok-divides.ensures.ok.value };
  left = record { holds = λ choice v r. (division_none v _ _ c.args.divisor.now (zero_rest c choice v r) c.new-quotient.ensures.items).0 };
  result = record { holds = λ choice v r. (division_none v c.in_ok-rest.rest.items _ c.args.divisor.now (zero_rest c choice v r) c.new-quotient.ensures.items).1 };
}

stepped : (c : goal.After-drop-rest-in-loop-i) (choice v : ℕ → Bool) → Runs c.divide_step.new.net choice v
    → (number v c.in_ok-step.step.rest.items ≡ remainder (number v (take (c.loop-i.i + 1) c.args.a.now)) (number v c.args.divisor.now))
    × (number v c.push.new.self.items ≡ quotient (number v (take (c.loop-i.i + 1) c.args.a.now)) (number v c.args.divisor.now))
stepped c choice v r =
    let before = c.in_ok-step.ensures.grown.runs choice v r in
    division_step v c.args.a.now c.args.divisor.now c.loop-i.rest.items c.deref.result.now c.in_ok-step.step.rest.items c.loop-i.quotient.items c.push.new.self.items c.in_ok-step.step.bit _
    c.in_ok-divides.divides.at c.loop-i.i c.requires.same c.loop-i-test.true c.loop-i.invariant.rest_wide c.deref.ensures.value c.in_ok-push.ensures.items
    (c.loop-i.invariant.divides.holds choice v before) (c.loop-i.invariant.left.holds choice v before) (c.loop-i.invariant.result.holds choice v before)
    (c.in_ok-step.ensures.ok.goes_is choice v r) (c.in_ok-step.ensures.ok.left_is choice v r)

pub loop-i-preserved : goal.loop-i-preserved
loop-i-preserved c =
    let grown = c.in_ok-step.ensures.grown in
    record {
      grown = Grown-trans _ _ _ c.loop-i.invariant.grown grown;
      result_wide = grind (arith, common_steps, bound_laws);
      rest_wide = c.in_ok-step.ensures.ok.wide ∙ ap length c.deref.ensures.value ∙ c.loop-i.invariant.rest_wide;
      result_below = grind (arith, common_steps, bound_laws);
      rest_below = c.in_ok-step.ensures.ok.left_below;
      divides_below = omega (arith, c.loop-i.invariant.divides_below, grown.longer);
      divides = record { holds = λ choice v r. c.loop-i.invariant.divides.holds choice v (grown.runs choice v r) };
      left = record { holds = λ choice v r. (stepped c choice v r).0 };
      result = record { holds = λ choice v r. (stepped c choice v r).1 };
    }
