use Rattle.std.proofs.Common.{[]}
use Rattle.bit_net.proofs.Growth.{Grown-refl, Grown-trans}
use Rattle.gl_sets.proofs.MadeLemmas.{made_none, made_more, made_all}
use Rattle.gl_sets.proofs.JoinLemmas.{join_first, join_points, join_good}
use Rattle.gl_sets.proofs.sets.join.Goals as goal

pub loop-pair-init : goal.loop-pair-init
loop-pair-init c = record { grown = Grown-refl _; so_far = made_none _ _ _ c.new-pairs.ensures.items }

pub loop-pair-preserved : goal.loop-pair-preserved
loop-pair-preserved c = record {
  grown = Grown-trans _ _ _ c.loop-pair.invariant.grown c.in_ok-join_target.ensures.grown;
  so_far = made_more _ _ [] _ _ _ c.loop-pair.pair-index _ c.as_slice-pair-items.ensures c.loop-pair-test.true
      (c.in_ok-join_target.ensures.ok _ c.loop-pair.invariant.so_far);
}

pub loop-pair-2-init : goal.loop-pair-2-init
loop-pair-2-init c = record {
  grown = c.loop-pair.invariant.grown;
  so_far = join_first _ _ _ _ _ _ c.loop-pair.pair-index c.as_slice-pair-items.ensures c.loop-pair-test.false c.loop-pair.invariant.so_far;
}

pub loop-pair-2-preserved : goal.loop-pair-2-preserved
loop-pair-2-preserved c = record {
  grown = Grown-trans _ _ _ c.loop-pair-2.invariant.grown c.in_ok-join_target-2.ensures.grown;
  so_far = made_more _ _ c.args.a.now.pairs.items _ _ _ c.loop-pair-2.pair-index _ c.as_slice-pair-items-2.ensures c.loop-pair-2-test.true
      (c.in_ok-join_target-2.ensures.ok _ c.loop-pair-2.invariant.so_far);
}

pub returns-clause-ok : goal.returns-clause-ok
returns-clause-ok c = join_points _ _ _ _ _ (made_all _ _ c.args.a.now.pairs.items _ _ _ c.loop-pair-2.pair-index c.as_slice-pair-items-2.ensures c.loop-pair-2-test.false c.loop-pair-2.invariant.so_far)

pub returns-clause-good : goal.returns-clause-good
returns-clause-good c s k =
    let all = made_all _ _ c.args.a.now.pairs.items _ _ _ c.loop-pair-2.pair-index c.as_slice-pair-items-2.ensures c.loop-pair-2-test.false c.loop-pair-2.invariant.so_far in
    join_good _ _ _ _ _ _ c.loop-pair-2.invariant.grown all.differ s k (join_points _ _ _ _ _ all)
