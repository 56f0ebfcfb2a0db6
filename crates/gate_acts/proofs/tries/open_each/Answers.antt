use Rattle.bit_net.proofs.Growth.{Grown-refl, Grown-trans}
use Rattle.gate_places.proofs.Checking.{tests_none, tests_step, tests_whole}
use Rattle.gate_acts.proofs.Taking.{tests_grown}
use Rattle.gate_acts.proofs.tries.open_each.Goals as goal

pub loop-pair-init : goal.loop-pair-init
loop-pair-init c = record { grown = Grown-refl _; so_far = tests_none _ _ _ c.args.pairs.now _ c.new-tests.ensures.items }

pub loop-pair-preserved : goal.loop-pair-preserved
loop-pair-preserved c =
    record {
      grown = Grown-trans _ _ _ c.loop-pair.invariant.grown c.in_ok-test.ensures.grown;
      so_far =
          tests_step _ _ _ c.args.pairs.now _ _ c.loop-pair.pair-index _ _ c.loop-pair-test.true c.in_ok-push.ensures.items c.in_ok-test.ensures.ok
          (tests_grown _ _ _ _ _ _ c.in_ok-test.ensures.grown c.loop-pair.invariant.so_far);
    }

pub returns-clause-ok : goal.returns-clause-ok
returns-clause-ok c = tests_whole _ _ _ c.args.pairs.now _ c.loop-pair.pair-index c.loop-pair-test.false c.loop-pair.invariant.so_far
