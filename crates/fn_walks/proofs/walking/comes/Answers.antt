use Rattle.std.proofs.Common.{arith}
use Rattle.bit_net.proofs.Growth.{Grown-refl, Grown-trans}
use Rattle.fn_facts.proofs.Growing.{ready_grows}
use Rattle.fn_walks.specs.Seen.{comes_over}
use Rattle.fn_walks.proofs.Making.{any_begins, any_done, any_more}
use Rattle.fn_walks.proofs.Reaching.{walk_grows}
use Rattle.fn_walks.proofs.walking.comes.Goals as goal

pub loop-i-init : goal.loop-i-init
loop-i-init c =
    let walk = c.args.walk.now in
    record {
      grown = Grown-refl _;
      ready = c.requires.ready;
      walk = c.requires.walk;
      some = any_begins _ _ (comes_over walk.from walk.through.items c.args.n) _ c.constant-some.ensures;
    }

pub loop-i-preserved : goal.loop-i-preserved
loop-i-preserved c =
    let walk = c.args.walk.now in
    let here = c.in_ok-here.ensures in
    let more = c.in_ok-more.ensures in
    let step = Grown-trans _ _ _ here.grown more.grown in
    record {
      grown = Grown-trans _ _ _ c.loop-i.invariant.grown step;
      ready = ready_grows _ _ _ step c.loop-i.invariant.ready;
      walk = walk_grows _ _ _ _ step c.loop-i.invariant.walk;
      some =
          any_more _ _ _ _ (comes_over walk.from walk.through.items c.args.n) c.loop-i.i _ _ _ here.grown more.grown c.loop-i.invariant.some here.ok
          more.ok;
    }

pub returns-clause-ok : goal.returns-clause-ok
returns-clause-ok c =
    let walk = c.args.walk.now in
    any_done _ _ (comes_over walk.from walk.through.items c.args.n) c.loop-i.i _ _ (omega (arith, c.loop-i-test.false, c.len-i-end.ensures))
    c.loop-i.invariant.some
