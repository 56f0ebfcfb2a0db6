use Rattle.gate_places.proofs.Checking.{tests_none, tests_step, tests_whole}
use Rattle.gate_paths.proofs.objects.are_lost.Goals as goal

pub loop-pair-init : goal.loop-pair-init
loop-pair-init c = record { so_far = tests_none _ _ _ c.args.pairs.now _ c.new-tests.ensures.items }

pub loop-pair-preserved : goal.loop-pair-preserved
loop-pair-preserved c =
    record {
      so_far =
          tests_step _ _ _ c.args.pairs.now _ _ c.loop-pair.pair-index _ _ c.loop-pair-test.true c.in_ok-push.ensures.items c.is_lost-test.ensures
          c.loop-pair.invariant.so_far;
    }

pub returns : goal.returns
returns c = tests_whole _ _ _ c.args.pairs.now _ c.loop-pair.pair-index c.loop-pair-test.false c.loop-pair.invariant.so_far
