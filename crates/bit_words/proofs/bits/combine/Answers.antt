use Rattle.std.proofs.Common.{arith, rules}
use Rattle.std.proofs.lemmas.Grind.{common_steps}
use Rattle.bit_words.proofs.NumberLemmas.{bound_laws}
use Rattle.bit_net.proofs.Growth.{Grown-trans}
use Rattle.bit_words.proofs.LoopLemmas.{combine_none, combine_step}
use Rattle.bit_words.proofs.bits.combine.Goals as goal

pub loop-i-init : goal.loop-i-init
loop-i-init c = record {
  grown = search rules;
  wide = grind (arith, common_steps, bound_laws);
  bits = grind (arith, common_steps, bound_laws);
  value = record { holds = λ choice v r. combine_none v c.args.operator _ c.new-bits.ensures.items };
}

pub loop-i-preserved : goal.loop-i-preserved
loop-i-preserved c =
    let grown = c.in_ok-bit.ensures.grown in
    record {
      grown = Grown-trans _ _ _ c.loop-i.invariant.grown grown;
      wide = grind (arith, common_steps, bound_laws);
      bits = grind (arith, common_steps, bound_laws);
      value = record {
        holds = λ choice v r.
            combine_step v c.args.operator c.args.a.now c.args.b.now c.loop-i.bits.items _ c.in_ok-bit.bit _ c.loop-i.i c.requires.same c.loop-i-test.true c.in_ok-push.ensures.items (c.loop-i.invariant.value.holds choice v (grown.runs choice v r)) (c.in_ok-bit.ensures.ok.value choice v r);
      };
    }
