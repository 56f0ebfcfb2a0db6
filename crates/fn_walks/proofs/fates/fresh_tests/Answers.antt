use Rattle.std.proofs.Common.{arith}
use Rattle.bit_net.proofs.Growth.{Grown-refl, Grown-trans}
use Rattle.fn_facts.proofs.Growing.{ready_grows}
use Rattle.fn_walks.specs.Seen.{is_fresh_at}
use Rattle.fn_walks.specs.Walks.{target_in}
use Rattle.fn_walks.proofs.Making.{each_all, each_none, each_push, same_target}
use Rattle.fn_walks.proofs.Reaching.{walk_grows}
use Rattle.fn_walks.proofs.fates.fresh_tests.Goals as goal

pub loop-i-init : goal.loop-i-init
loop-i-init c =
    record {
      grown = Grown-refl _;
      ready = c.requires.ready;
      walk = c.requires.walk;
      so_far = each_none _ _ (λ o t. is_fresh_at o c.args.walk.now.from t) (target_in c.args.pairs.now) _ c.new-tests.ensures.items;
    }

pub loop-i-preserved : goal.loop-i-preserved
loop-i-preserved c =
    let test = c.in_ok-test.ensures in
    record {
      grown = Grown-trans _ _ _ c.loop-i.invariant.grown test.grown;
      ready = ready_grows _ _ _ test.grown c.loop-i.invariant.ready;
      walk = walk_grows _ _ _ _ test.grown c.loop-i.invariant.walk;
      so_far =
          each_push _ _ _ (λ o t. is_fresh_at o c.args.walk.now.from t) (target_in c.args.pairs.now) c.loop-i.i _ _ _ _ test.grown
          c.in_ok-push.ensures.items (same_target c.args.pairs.now c.loop-i.i _ c.loop-i-test.true) c.loop-i.invariant.so_far test.ok;
    }

pub returns-clause-ok : goal.returns-clause-ok
returns-clause-ok c =
    each_all _ _ (λ o t. is_fresh_at o c.args.walk.now.from t) (target_in c.args.pairs.now) c.loop-i.i _ _ (omega (arith, c.loop-i-test.false))
    c.loop-i.invariant.so_far
