use Rattle.std.proofs.Common.{arith}
use Rattle.bit_net.proofs.Growth.{Grown-refl, Grown-trans}
use Rattle.sc_world.specs.Shows.{cell_leads}
use Rattle.fn_facts.proofs.Growing.{ready_grows}
use Rattle.fn_walks.proofs.Making.{any_begins, any_done, any_more}
use Rattle.fn_walks.proofs.leading.some_cell_leads.Goals as goal

pub loop-k-init : goal.loop-k-init
loop-k-init c =
    record {
      grown = Grown-refl _;
      ready = c.requires.ready;
      some = any_begins _ _ (λ p k. cell_leads p c.args.from c.args.to k) _ c.constant-some.ensures;
    }

pub loop-k-preserved : goal.loop-k-preserved
loop-k-preserved c =
    let here = c.in_ok-here.ensures in
    let more = c.in_ok-more.ensures in
    let step = Grown-trans _ _ _ here.grown more.grown in
    record {
      grown = Grown-trans _ _ _ c.loop-k.invariant.grown step;
      ready = ready_grows _ _ _ step c.loop-k.invariant.ready;
      some =
          any_more _ _ _ _ (λ p k. cell_leads p c.args.from c.args.to k) c.loop-k.k _ _ _ here.grown more.grown c.loop-k.invariant.some here.ok
          more.ok;
    }

pub returns-clause-ok : goal.returns-clause-ok
returns-clause-ok c =
    any_done _ _ (λ p k. cell_leads p c.args.from c.args.to k) c.loop-k.k _ _ (omega (arith, c.count-k-end.ensures.count)) c.loop-k.invariant.some
