use Rattle.bit_net.proofs.Growth.{Grown-refl, Grown-trans}
use Rattle.run_world.specs.Seen as seen
use Rattle.gate_stands.proofs.Items.{outs_none, outs_step, outs_all}
use Rattle.gate_stands.proofs.outs.outs_stand.Goals as goal

pub loop-out-init : goal.loop-out-init
loop-out-init c =
    record {
      grown = Grown-refl _;
      so_far =
          outs_none (seen.env c.args.here.now).source (seen.env c.args.here.now).layout _ c.args.given.now c.args.outcome c.args.outs.now _
          c.constant-all.ensures;
    }

pub loop-out-preserved : goal.loop-out-preserved
loop-out-preserved c =
    record {
      grown = Grown-trans _ _ _ c.loop-out.invariant.grown (Grown-trans _ _ _ c.in_ok-one.ensures.grown c.in_ok-more.ensures.grown);
      so_far =
          outs_step (seen.env c.args.here.now).source (seen.env c.args.here.now).layout _ _ _ c.args.given.now c.args.outcome c.args.outs.now
          c.loop-out.out-index c.out-item.result _ _ _ c.loop-out-test.true c.out-item.is c.in_ok-one.ensures.grown c.in_ok-more.ensures.grown
          c.loop-out.invariant.so_far c.in_ok-one.ensures.ok c.in_ok-more.ensures.ok;
    }

pub returns-clause-ok : goal.returns-clause-ok
returns-clause-ok c =
    outs_all (seen.env c.args.here.now).source (seen.env c.args.here.now).layout _ c.args.given.now c.args.outcome c.args.outs.now c.loop-out.out-index _
    c.loop-out-test.false c.loop-out.invariant.so_far
