use Rattle.gl_sets.proofs.GuardLemmas.{points_found, still_missing, points_missing}
use Rattle.gl_sets.proofs.sets.points.Goals as goal

pub returns-then-pair-target : goal.returns-then-pair-target
returns-then-pair-target c = points_found _ _ _ c.loop-pair.pair-index _ c.args.target c.as_slice-pair-items.ensures c.args.s.now.differ c.requires c.loop-pair-test.true c.if-pair-target.true

pub loop-pair-preserved : goal.loop-pair-preserved
loop-pair-preserved c = still_missing _ _ c.loop-pair.pair-index _ c.args.target c.as_slice-pair-items.ensures c.loop-pair-test.true c.loop-pair.invariant c.if-pair-target.false

pub returns : goal.returns
returns c = points_missing _ _ _ c.loop-pair.pair-index c.constant.result.at c.args.target c.as_slice-pair-items.ensures c.loop-pair-test.false c.loop-pair.invariant c.constant.ensures
