use Rattle.std.proofs.Common.{subst}
use Rattle.bit_net.proofs.Growth.{Grown-refl, Grown-trans}
use Rattle.gate_paths.specs.Alias.{Meet}
use Rattle.gate_paths.specs.Gathered.{where_item}
use Rattle.gate_paths.proofs.Meeting.{first_none, first_step, first_all}
use Rattle.gate_paths.proofs.alias.meet_some.Goals as goal

pub loop-other-init : goal.loop-other-init
loop-other-init c = record { grown = Grown-refl _; so_far = first_none _ c.args.a.now.pairs.items c.args.others.now _ c.constant-some.ensures }

pub loop-other-preserved : goal.loop-other-preserved
loop-other-preserved c =
    record {
      grown = Grown-trans _ _ _ c.loop-other.invariant.grown (Grown-trans _ _ _ c.in_ok-met.ensures.grown c.in_ok-more.ensures.grown);
      so_far =
          first_step _ _ _ c.args.a.now.pairs.items c.args.others.now c.loop-other.other-index c.other-item.result _ _ _ c.loop-other-test.true c.other-item.is
          c.in_ok-met.ensures.grown c.in_ok-more.ensures.grown c.loop-other.invariant.so_far
          (subst (λ ps. Meet c.meet.new.net ps (where_item c.other-item.result) c.in_ok-met.met.at) c.as_slice.ensures c.in_ok-met.ensures.ok)
          c.in_ok-more.ensures.ok;
    }

pub returns-clause-ok : goal.returns-clause-ok
returns-clause-ok c = first_all _ c.args.a.now.pairs.items c.args.others.now c.loop-other.other-index _ c.loop-other-test.false c.loop-other.invariant.so_far
