use Rattle.std.proofs.Common.{arith, rules}
use Rattle.std.proofs.lemmas.Grind.{common_steps}
use Rattle.std.proofs.lemmas.List.{take_rest}
use Rattle.bit_words.proofs.NumberLemmas.{bound_laws}
use Rattle.bit_net.proofs.Growth.{Grown-trans}
use Rattle.bit_words.proofs.ProductLemmas.{product_none, product_step}
use Rattle.bit_words.proofs.multiplying.product.Goals as goal

pub loop-i-init : goal.loop-i-init
loop-i-init c = record {
  grown = search rules;
  wide = grind (arith, common_steps, bound_laws);
  below = grind (arith, common_steps, bound_laws);
  value = record { holds = λ choice v r. product_none v _ _ c.new-product.ensures.items };
}

pub loop-i-preserved : goal.loop-i-preserved
loop-i-preserved c =
    let grown = c.in_ok-next.ensures.grown in
    record {
      grown = Grown-trans _ _ _ c.loop-i.invariant.grown grown;
      wide = grind (arith, common_steps, bound_laws);
      below = c.in_ok-next.ensures.ok.below;
      value = record {
        holds = λ choice v r.
            product_step v c.args.a.now c.args.b.now c.loop-i.product.items c.push.new.self.items c.deref.result.now _ c.in_ok-next.next.items c.constant-no.result _ c.loop-i.i
            c.requires.same c.loop-i-test.true c.loop-i.invariant.wide c.in_ok-push.ensures.items c.deref.ensures.value (take_rest c.args.a.now _)
            (c.loop-i.invariant.value.holds choice v (grown.runs choice v r)) (c.constant-no.ensures.value choice v (c.loop-i.invariant.grown.runs choice v (grown.runs choice v r)))
            (c.in_ok-next.ensures.ok.value choice v r);
      };
    }
