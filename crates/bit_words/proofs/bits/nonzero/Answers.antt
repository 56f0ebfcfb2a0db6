use Rattle.bit_net.proofs.Growth.{Grown-refl, Grown-trans}
use Rattle.bit_words.proofs.LoopLemmas.{nonzero_none, nonzero_step}
use Rattle.bit_words.proofs.bits.nonzero.Goals as goal

pub loop-i-init : goal.loop-i-init
loop-i-init c = record {
  grown = Grown-refl _;
  below = c.constant-some.ensures.below;
  value = record { holds = λ choice v r. nonzero_none v c.constant-some.result.at (c.constant-some.ensures.value choice v r) };
}

pub loop-i-preserved : goal.loop-i-preserved
loop-i-preserved c =
    let grown = c.in_ok-more.ensures.grown in
    record {
      grown = Grown-trans _ _ _ c.loop-i.invariant.grown grown;
      below = c.in_ok-more.ensures.ok.below;
      value = record {
        holds = λ choice v r.
            nonzero_step v c.args.a.now _ c.loop-i.some.at c.in_ok-more.more.at c.loop-i.i c.loop-i-test.true
            (c.loop-i.invariant.value.holds choice v (grown.runs choice v r)) (c.in_ok-more.ensures.ok.value choice v r);
      };
    }
