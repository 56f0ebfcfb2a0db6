use Rattle.bit_net.proofs.Growth.{Grown-refl, Grown-trans}
use Rattle.gate_paths.specs.Cells.{put_written, where_cell}
use Rattle.gate_sets.proofs.Each.{each_none, each_step, each_all}
use Rattle.gate_sets.proofs.Filling.{cell_before, sets_writes}
use Rattle.sc_world.specs.Known.{set_written}
use Rattle.gate_sets.proofs.writes.set_writes.Goals as goal

pub loop-x-init : goal.loop-x-init
loop-x-init c = record { grown = Grown-refl _; so_far = each_none _ _ c.args.ends.now where_cell put_written set_written _ c.args.writes.now _ c.requires.store }

pub loop-x-preserved : goal.loop-x-preserved
loop-x-preserved c =
    let step = c.in_ok-set_written.ensures in
    record {
      grown = Grown-trans _ _ _ c.loop-x.invariant.grown step.grown;
      so_far =
          each_step _ _ c.args.ends.now where_cell put_written set_written _ _ c.loop-x.x-index c.args.writes.now c.x-item.result _ _ _ cell_before c.loop-x-test.true
          c.x-item.is step.grown c.loop-x.invariant.so_far step.ok;
    }

pub returns-clause-ok : goal.returns-clause-ok
returns-clause-ok c =
    sets_writes _ _ _ c.args.ends.now c.args.writes.now _ _
    (each_all _ _ c.args.ends.now where_cell put_written set_written _ c.loop-x.x-index c.args.writes.now _ _ c.loop-x-test.false c.loop-x.invariant.so_far)
