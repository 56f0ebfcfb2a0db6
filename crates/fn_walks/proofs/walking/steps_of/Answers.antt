use Rattle.std.proofs.Common.{arith}
use Rattle.bit_net.proofs.Growth.{Grown-refl, Grown-trans}
use Rattle.fn_facts.proofs.Growing.{ready_grows}
use Rattle.fn_walks.specs.Seen.{leads}
use Rattle.fn_walks.specs.Walks.{nth}
use Rattle.fn_walks.proofs.Gathering.{same_object}
use Rattle.fn_walks.proofs.Making.{each_all, each_none, each_push}
use Rattle.fn_walks.proofs.walking.steps_of.Goals as goal

pub loop-i-init : goal.loop-i-init
loop-i-init c =
    record {
      grown = Grown-refl _;
      ready = c.requires.ready;
      so_far = each_none _ _ (λ o n. leads o c.args.from n) (nth c.args.objects.now) _ c.new-steps.ensures.items;
    }

pub loop-i-preserved : goal.loop-i-preserved
loop-i-preserved c =
    let step = c.in_ok-step.ensures in
    record {
      grown = Grown-trans _ _ _ c.loop-i.invariant.grown step.grown;
      ready = ready_grows _ _ _ step.grown c.loop-i.invariant.ready;
      so_far =
          each_push _ _ _ (λ o n. leads o c.args.from n) (nth c.args.objects.now) c.loop-i.i _ _ _ _ step.grown c.in_ok-push.ensures.items
          (same_object c.args.objects.now c.loop-i.i _ c.loop-i-test.true) c.loop-i.invariant.so_far step.ok;
    }

pub returns-clause-ok : goal.returns-clause-ok
returns-clause-ok c =
    each_all _ _ (λ o n. leads o c.args.from n) (nth c.args.objects.now) c.loop-i.i _ _ (omega (arith, c.loop-i-test.false)) c.loop-i.invariant.so_far
