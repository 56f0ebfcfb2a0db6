use Rattle.std.proofs.Common.{arith}
use Rattle.bit_net.proofs.Growth.{Grown-refl, Grown-trans}
use Rattle.sc_world.specs.Shows as shows
use Rattle.fn_facts.proofs.Growing.{ready_grows}
use Rattle.fn_walks.specs.Seen.{is_lost_from}
use Rattle.fn_walks.proofs.Lost.{loses_shown}
use Rattle.fn_walks.proofs.Making.{any_begins, any_more}
use Rattle.fn_walks.proofs.Reaching.{walk_grows}
use Rattle.fn_walks.proofs.losing.loses.Goals as goal

pub loop-k-init : goal.loop-k-init
loop-k-init c =
    record {
      grown = Grown-refl _;
      ready = c.requires.ready;
      walk = c.requires.walk;
      some = any_begins _ _ (is_lost_from c.args.pos) _ c.constant-some.ensures;
    }

pub loop-k-preserved : goal.loop-k-preserved
loop-k-preserved c =
    let here = c.in_ok-here.ensures in
    let more = c.in_ok-more.ensures in
    let step = Grown-trans _ _ _ here.grown more.grown in
    record {
      grown = Grown-trans _ _ _ c.loop-k.invariant.grown step;
      ready = ready_grows _ _ _ step c.loop-k.invariant.ready;
      walk = walk_grows _ _ _ _ step c.loop-k.invariant.walk;
      some = any_more _ _ _ _ (is_lost_from c.args.pos) c.loop-k.k _ _ _ here.grown more.grown c.loop-k.invariant.some here.ok more.ok;
    }

pub returns-clause-ok : goal.returns-clause-ok
returns-clause-ok c =
    c.in_ok-loses.ensures.ok (λ o. shows.loses o c.args.pos)
    (loses_shown _ _ c.args.pos c.loop-k.k _ (omega (arith, c.count-k-end.ensures.count)) c.loop-k.invariant.some)
