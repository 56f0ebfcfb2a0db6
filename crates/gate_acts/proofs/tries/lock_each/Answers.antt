use Rattle.std.proofs.Common.{arith}
use Rattle.bit_net.proofs.Growth.{Grown-refl, Grown-trans}
use Rattle.gl_sets.proofs.GuardLemmas.{guard_below}
use Rattle.gate_acts.proofs.Taking.{locks_none, locks_step, locks_whole}
use Rattle.gate_acts.proofs.tries.lock_each.Goals as goal

pub loop-pair-init : goal.loop-pair-init
loop-pair-init c = record { grown = Grown-refl _; so_far = locks_none _ _ _ c.args.had.at c.args.pairs.now _ c.requires.store }

pub lock_target-requires-clause-guard : goal.lock_target-requires-clause-guard
lock_target-requires-clause-guard c =
    omega (arith, guard_below c.args.pairs.now c.loop-pair.pair-index record { guard = record { at = 0 }; target = 0 } c.loop-pair-test.true, c.requires.guards, c.loop-pair.invariant.grown.longer)

pub loop-pair-preserved : goal.loop-pair-preserved
loop-pair-preserved c =
    record {
      grown = Grown-trans _ _ _ c.loop-pair.invariant.grown c.in_ok-lock_target.ensures.grown;
      so_far = locks_step _ _ _ _ c.args.had.at c.loop-pair.pair-index c.args.pairs.now _ _ _ _ c.loop-pair-test.true c.in_ok-lock_target.ensures.grown c.loop-pair.invariant.so_far
          c.in_ok-lock_target.ensures.ok;
    }

pub returns-clause-ok : goal.returns-clause-ok
returns-clause-ok c = locks_whole _ _ _ c.args.had.at c.loop-pair.pair-index c.args.pairs.now _ _ c.loop-pair-test.false c.loop-pair.invariant.so_far
