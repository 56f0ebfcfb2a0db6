use Rattle.std.proofs.Common.{ap, subst, arith}
use Rattle.bit_net.proofs.Growth.{Grown-refl, Grown-trans}
use Rattle.gl_store.specs.Meets.{val_top}
use Rattle.flow_fills.specs.Merged.{IsGuardedOne}
use Rattle.flow_fills.proofs.Merging.{guarded_at, guarded_none, guarded_step, guarded_whole}
use Rattle.flow_fills.proofs.readings.guard_all.Goals as goal

pub loop-guarded-init : goal.loop-guarded-init
loop-guarded-init c = record { grown = Grown-refl _; so_far = guarded_none _ _ _ _ c.new-made.ensures.items }

pub guard-requires-clause-guarded : goal.guard-requires-clause-guarded
guard-requires-clause-guarded c =
    let below = guarded_at c.args.vals.now c.loop-guarded.guarded-index c.guarded-item.result c.loop-guarded-test.true in
    omega (arith, ap (λ g. g.when.at) c.guarded-item.is, below.0, c.requires.vals, c.loop-guarded.invariant.grown.longer)

pub guard-requires-clause-val : goal.guard-requires-clause-val
guard-requires-clause-val c =
    let below = guarded_at c.args.vals.now c.loop-guarded.guarded-index c.guarded-item.result c.loop-guarded-test.true in
    omega (arith, ap (λ g. val_top g.val) c.guarded-item.is, below.1, c.requires.vals, c.loop-guarded.invariant.grown.longer)

pub loop-guarded-preserved : goal.loop-guarded-preserved
loop-guarded-preserved c =
    record {
      grown = Grown-trans _ _ _ c.loop-guarded.invariant.grown c.in_ok-both.ensures.grown;
      so_far =
          guarded_step _ _ c.args.when.at c.args.vals.now c.loop-guarded.made.items _ c.loop-guarded.guarded-index c.guarded-item.result c.in_ok-both.both c.loop-guarded-test.true
          c.in_ok-both.ensures.grown
          (subst (λ g. IsGuardedOne c.guard.new.net c.args.when.at g c.in_ok-both.both) c.guarded-item.is c.in_ok-both.ensures.ok)
          c.in_ok-push.ensures.items c.loop-guarded.invariant.so_far;
    }

pub returns-clause-ok : goal.returns-clause-ok
returns-clause-ok c = guarded_whole _ _ c.args.vals.now _ c.loop-guarded.guarded-index c.loop-guarded-test.false c.loop-guarded.invariant.so_far
