use Rattle.bit_net.proofs.Growth.{Grown-refl, Grown-trans}
use Rattle.gate_paths.specs.Gathered.{put_locked, where_item}
use Rattle.gate_sets.proofs.Each.{each_none, each_step, each_all}
use Rattle.gate_sets.proofs.Stating.{lock_before, sets_states}
use Rattle.gate_sets.specs.States.{set_one}
use Rattle.gate_sets.proofs.states.set_states.Goals as goal

pub loop-lock-init : goal.loop-lock-init
loop-lock-init c = record { grown = Grown-refl _; so_far = each_none _ _ c.args.ends.now where_item put_locked set_one _ c.args.locks.now _ c.requires.store }

pub loop-lock-preserved : goal.loop-lock-preserved
loop-lock-preserved c =
    let step = c.in_ok-set_state.ensures in
    record {
      grown = Grown-trans _ _ _ c.loop-lock.invariant.grown step.grown;
      so_far =
          each_step _ _ c.args.ends.now where_item put_locked set_one _ _ c.loop-lock.lock-index c.args.locks.now c.lock-item.result _ _ _ lock_before c.loop-lock-test.true
          c.lock-item.is step.grown c.loop-lock.invariant.so_far step.ok;
    }

pub returns-clause-ok : goal.returns-clause-ok
returns-clause-ok c =
    sets_states _ _ _ c.args.ends.now c.args.locks.now _ _
    (each_all _ _ c.args.ends.now where_item put_locked set_one _ c.loop-lock.lock-index c.args.locks.now _ _ c.loop-lock-test.false c.loop-lock.invariant.so_far)
