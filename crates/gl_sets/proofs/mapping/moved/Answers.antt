use Rattle.std.proofs.Common.{arith}
use Rattle.bit_net.proofs.Growth.{Grown-refl, Grown-trans}
use Rattle.gl_sets.proofs.MoveLemmas.{moved_none, moved_turn, moved_all, moved_points, moved_good}
use Rattle.gl_sets.proofs.mapping.moved.Goals as goal

pub loop-i-init : goal.loop-i-init
loop-i-init c = record { grown = Grown-refl _; so_far = moved_none _ c.args.s.now.pairs.items c.args.targets.now _ c.new-pairs.ensures.items }

pub loop-i-preserved : goal.loop-i-preserved
loop-i-preserved c = record {
  grown = Grown-trans _ _ _ c.loop-i.invariant.grown c.in_ok-move_target.ensures.grown;
  so_far = moved_turn _ _ c.as_slice.result.now c.args.s.now.pairs.items c.args.targets.now c.loop-i.i _ _ c.as_slice.ensures
      c.in_ok-move_target.ensures.ok c.loop-i.invariant.so_far;
}

pub returns-clause-ok : goal.returns-clause-ok
returns-clause-ok c =
    moved_points _ _ _ _ (moved_all _ c.args.s.now.pairs.items c.args.targets.now c.loop-i.i _ c.requires.wide (omega arith) c.loop-i.invariant.so_far)

pub returns-clause-good : goal.returns-clause-good
returns-clause-good c good =
    moved_good _ _ _ _ _ c.loop-i.invariant.grown c.requires.wide good
    (moved_all _ c.args.s.now.pairs.items c.args.targets.now c.loop-i.i _ c.requires.wide (omega arith) c.loop-i.invariant.so_far)
