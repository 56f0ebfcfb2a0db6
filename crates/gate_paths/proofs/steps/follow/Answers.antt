use Rattle.bit_net.proofs.Growth.{Grown-refl, Grown-trans}
use Rattle.layout_base.specs.Seen as laid
use Rattle.gate_paths.proofs.Following.{steps_none, steps_step, steps_all}
use Rattle.gate_paths.proofs.steps.follow.Goals as goal

pub loop-step-init : goal.loop-step-init
loop-step-init c =
    record {
      grown = Grown-refl _;
      so_far = steps_none _ (laid.layout_of c.args.layout.now.places.now) c.args.store.now.locations.items c.args.steps.now _ c.requires.begin;
    }

pub loop-step-preserved : goal.loop-step-preserved
loop-step-preserved c =
    let step = c.in_ok-to.ensures in
    record {
      grown = Grown-trans _ _ _ c.loop-step.invariant.grown step.grown;
      so_far =
          steps_step _ _ (laid.layout_of c.args.layout.now.places.now) c.args.store.now.locations.items c.args.steps.now c.loop-step.step-index _ _ _ _
          c.loop-step-test.true step.grown c.loop-step.invariant.so_far step.ok;
    }

pub returns-clause-ok : goal.returns-clause-ok
returns-clause-ok c =
    steps_all _ (laid.layout_of c.args.layout.now.places.now) c.args.store.now.locations.items c.args.steps.now c.loop-step.step-index _ _
    c.loop-step-test.false
    c.loop-step.invariant.so_far
