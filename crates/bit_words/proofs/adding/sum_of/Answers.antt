use Rattle.std.proofs.Common.{arith, rules}
use Rattle.std.proofs.lemmas.Grind.{common_steps}
use Rattle.bit_words.proofs.NumberLemmas.{bound_laws}
use Rattle.bit_net.proofs.Growth.{Grown-trans}
use Rattle.bit_words.proofs.LoopLemmas.{sum_none, sum_step}
use Rattle.bit_words.proofs.adding.sum_of.Goals as goal

pub loop-i-init : goal.loop-i-init
loop-i-init c = record {
  grown = search rules;
  wide = grind (arith, common_steps, bound_laws);
  bits = grind (arith, common_steps, bound_laws);
  carry = c.requires.first;
  value = record { holds = λ choice v r. sum_none v c.args.a.now c.args.b.now _ c.args.first.at c.new-bits.ensures.items };
}

pub loop-i-preserved : goal.loop-i-preserved
loop-i-preserved c =
    let grown = c.in_ok-next.ensures.grown in
    record {
      grown = Grown-trans _ _ _ c.loop-i.invariant.grown grown;
      wide = grind (arith, common_steps, bound_laws);
      bits = grind (arith, common_steps, bound_laws);
      carry = c.in_ok-next.ensures.ok.carry_below;
      value = record {
        holds = λ choice v r.
            sum_step v c.args.a.now c.args.b.now c.loop-i.bits.items _ c.in_ok-next.next.sum _ c.in_ok-next.next.carry.at c.loop-i.carry.at c.args.first.at c.loop-i.i
            c.requires.same c.loop-i-test.true c.loop-i.invariant.wide c.in_ok-push.ensures.items (c.loop-i.invariant.value.holds choice v (grown.runs choice v r)) (c.in_ok-next.ensures.ok.value choice v r);
      };
    }
