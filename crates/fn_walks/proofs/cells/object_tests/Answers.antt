use Rattle.std.proofs.Common.{subst, ◌≡◌, length, arith}
use Rattle.bit_net.proofs.Growth.{Grown-refl}
use Rattle.fn_walks.specs.Seen.{is_object}
use Rattle.fn_walks.specs.Walks.{Each, target_in}
use Rattle.fn_walks.proofs.Making.{each_none, each_push, same_target, test_shown}
use Rattle.fn_walks.proofs.cells.object_tests.Goals as goal

pub loop-i-init : goal.loop-i-init
loop-i-init c = record { so_far = each_none _ _ _ _ _ c.new-tests.ensures.items }

pub loop-i-preserved : goal.loop-i-preserved
loop-i-preserved c =
    record {
      so_far =
          each_push _ _ _ (λ o t. is_object o.layout t c.args.n) (target_in c.args.pairs.now) c.loop-i.i _ _ _ _ (Grown-refl _) c.in_ok-push.ensures.items
          (same_target c.args.pairs.now c.loop-i.i _ c.loop-i-test.true) c.loop-i.invariant.so_far
          (test_shown _ _ c.args.n _ _ _ c.is_object.ensures c.constant-test.ensures);
    }

pub returns : goal.returns
returns c =
    let all : c.loop-i.i ≡ length c.args.pairs.now = omega (arith, c.loop-i-test.false) in
    subst (λ k. Each c.args.around.now c.args.net.now (λ o t. is_object o.layout t c.args.n) (target_in c.args.pairs.now) k c.loop-i.tests.items) all
    c.loop-i.invariant.so_far
