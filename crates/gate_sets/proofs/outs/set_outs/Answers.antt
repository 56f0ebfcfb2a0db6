use Rattle.bit_net.proofs.Growth.{Grown-refl, Grown-trans}
use Rattle.gate_paths.specs.Gathered.{put_out, where_item}
use Rattle.gate_sets.proofs.Each.{each_none, each_step, each_all}
use Rattle.gate_sets.proofs.Pointing.{out_before, sets_outs}
use Rattle.gate_sets.specs.Outs.{set_one}
use Rattle.gate_sets.proofs.outs.set_outs.Goals as goal

pub loop-out-init : goal.loop-out-init
loop-out-init c = record { grown = Grown-refl _; so_far = each_none _ _ c.args.ends.now where_item put_out set_one _ c.args.outs.now _ c.requires.store }

pub loop-out-preserved : goal.loop-out-preserved
loop-out-preserved c =
    let step = c.in_ok-set_out.ensures in
    record {
      grown = Grown-trans _ _ _ c.loop-out.invariant.grown step.grown;
      so_far =
          each_step _ _ c.args.ends.now where_item put_out set_one _ _ c.loop-out.out-index c.args.outs.now c.out-item.result _ _ _ out_before c.loop-out-test.true
          c.out-item.is step.grown c.loop-out.invariant.so_far step.ok;
    }

pub returns-clause-ok : goal.returns-clause-ok
returns-clause-ok c =
    sets_outs _ _ _ c.args.ends.now c.args.outs.now _ _
    (each_all _ _ c.args.ends.now where_item put_out set_one _ c.loop-out.out-index c.args.outs.now _ _ c.loop-out-test.false c.loop-out.invariant.so_far)
