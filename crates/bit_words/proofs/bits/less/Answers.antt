use Rattle.std.proofs.Common.{rules}
use Rattle.bit_net.proofs.Growth.{Grown-trans}
use Rattle.bit_words.proofs.LoopLemmas.{less_none, less_step}
use Rattle.bit_words.proofs.bits.less.Goals as goal

pub loop-i-init : goal.loop-i-init
loop-i-init c = record {
  grown = search rules;
  below = c.constant-less.ensures.below;
  value = record { holds = λ choice v r. less_none v c.args.a.now c.args.b.now c.constant-less.result.at (c.constant-less.ensures.value choice v r) };
}

pub loop-i-preserved : goal.loop-i-preserved
loop-i-preserved c =
    let grown = c.in_ok-more.ensures.grown in
    record {
      grown = Grown-trans _ _ _ c.loop-i.invariant.grown grown;
      below = c.in_ok-more.ensures.ok.below;
      value = record {
        holds = λ choice v r.
            less_step v c.args.a.now c.args.b.now _ c.loop-i.less.at c.in_ok-more.more.at c.loop-i.i c.requires.same c.loop-i-test.true (c.loop-i.invariant.value.holds choice v (grown.runs choice v r)) (c.in_ok-more.ensures.ok.value choice v r);
      };
    }
