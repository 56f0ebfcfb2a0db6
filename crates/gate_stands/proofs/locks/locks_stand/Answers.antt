use Rattle.bit_net.proofs.Growth.{Grown-refl, Grown-trans}
use Rattle.run_world.specs.Seen as seen
use Rattle.gate_stands.proofs.Items.{locks_none, locks_step, locks_all}
use Rattle.gate_stands.proofs.locks.locks_stand.Goals as goal

pub loop-lock-init : goal.loop-lock-init
loop-lock-init c =
    record {
      grown = Grown-refl _;
      so_far =
          locks_none (seen.env c.args.here.now).source (seen.env c.args.here.now).layout _ c.args.store.now.locations.items c.args.given.now c.args.outcome
          c.args.locks.now _ c.constant-all.ensures;
    }

pub loop-lock-preserved : goal.loop-lock-preserved
loop-lock-preserved c =
    record {
      grown = Grown-trans _ _ _ c.loop-lock.invariant.grown (Grown-trans _ _ _ c.in_ok-one.ensures.grown c.in_ok-more.ensures.grown);
      so_far =
          locks_step (seen.env c.args.here.now).source (seen.env c.args.here.now).layout _ _ _ c.args.store.now.locations.items c.args.given.now c.args.outcome
          c.args.locks.now c.loop-lock.lock-index c.lock-item.result _ _ _ c.loop-lock-test.true c.lock-item.is c.in_ok-one.ensures.grown
          c.in_ok-more.ensures.grown c.loop-lock.invariant.so_far c.in_ok-one.ensures.ok c.in_ok-more.ensures.ok;
    }

pub returns-clause-ok : goal.returns-clause-ok
returns-clause-ok c =
    locks_all (seen.env c.args.here.now).source (seen.env c.args.here.now).layout _ c.args.store.now.locations.items c.args.given.now c.args.outcome
    c.args.locks.now c.loop-lock.lock-index _ c.loop-lock-test.false c.loop-lock.invariant.so_far
