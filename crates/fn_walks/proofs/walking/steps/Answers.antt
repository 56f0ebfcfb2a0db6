use Rattle.std.proofs.Common.{arith}
use Rattle.bit_net.proofs.Growth.{Grown-refl, Grown-trans}
use Rattle.fn_facts.proofs.Growing.{ready_grows}
use Rattle.fn_walks.proofs.Gathering.{same_object, steps_all, steps_none, steps_push}
use Rattle.fn_walks.proofs.walking.steps.Goals as goal

pub loop-i-init : goal.loop-i-init
loop-i-init c =
    record { grown = Grown-refl _; ready = c.requires.ready; so_far = steps_none _ _ c.args.objects.now _ c.new-rows.ensures.items }

pub loop-i-preserved : goal.loop-i-preserved
loop-i-preserved c =
    let row = c.in_ok-row.ensures in
    record {
      grown = Grown-trans _ _ _ c.loop-i.invariant.grown row.grown;
      ready = ready_grows _ _ _ row.grown c.loop-i.invariant.ready;
      so_far =
          steps_push _ _ _ c.args.objects.now c.loop-i.i _ _ _ _ row.grown c.in_ok-push.ensures.items
          (same_object c.args.objects.now c.loop-i.i _ c.loop-i-test.true) c.loop-i.invariant.so_far row.ok;
    }

pub returns-clause-ok : goal.returns-clause-ok
returns-clause-ok c =
    steps_all _ _ c.args.objects.now c.loop-i.i _ _ (omega (arith, c.loop-i-test.false)) c.loop-i.invariant.so_far
