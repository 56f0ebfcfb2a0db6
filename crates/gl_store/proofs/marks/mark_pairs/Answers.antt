use Rattle.std.proofs.Common.{arith}
use Rattle.bit_net.proofs.Growth.{Grown-refl, Grown-trans}
use Rattle.gl_sets.proofs.GuardLemmas.{guard_below}
use Rattle.gl_store.proofs.MarkLemmas.{mark_none, mark_step, mark_whole}
use Rattle.gl_store.proofs.marks.mark_pairs.Goals as goal

pub loop-pair-init : goal.loop-pair-init
loop-pair-init c = record { grown = Grown-refl _; so_far = mark_none _ _ _ _ _ c.requires.locations }

pub and-requires-clause-b : goal.and-requires-clause-b
and-requires-clause-b c =
    omega (
      arith,
      guard_below c.args.at.now c.loop-pair.pair-index record { guard = record { at = 0 }; target = 0 } c.loop-pair-test.true,
      c.requires.at,
      c.loop-pair.invariant.grown.longer,
    )

pub loop-pair-preserved : goal.loop-pair-preserved
loop-pair-preserved c = record {
  grown = Grown-trans _ _ _ c.loop-pair.invariant.grown (Grown-trans _ _ _ c.in_ok-when.ensures.grown c.in_ok-mark_target.ensures.grown);
  so_far = mark_step _ _ _ c.args.live.at _ c.args.at.now c.loop-pair.pair-index _ c.args.flag _ _ _ c.loop-pair-test.true c.in_ok-when.ensures.grown
      c.in_ok-mark_target.ensures.grown c.in_ok-when.ensures.ok c.in_ok-mark_target.ensures.ok c.loop-pair.invariant.so_far;
}

pub returns-clause-ok : goal.returns-clause-ok
returns-clause-ok c = mark_whole _ c.args.live.at c.args.at.now c.loop-pair.pair-index c.args.flag _ _ c.loop-pair-test.false c.loop-pair.invariant.so_far
