use Rattle.std.proofs.Common.{arith}
use Rattle.bit_net.proofs.Growth.{Grown-refl, Grown-trans}
use Rattle.gate_inits.proofs.CellsSet.{clear_none, clear_more, clear_whole}
use Rattle.gate_inits.proofs.filling.clear_cells.Goals as goal

pub loop-target-init : goal.loop-target-init
loop-target-init c = record { grown = Grown-refl _; so_far = clear_none _ _ _ _ _ _ c.requires.store }

pub loop-target-preserved : goal.loop-target-preserved
loop-target-preserved c =
    record {
      grown = Grown-trans _ _ _ c.loop-target.invariant.grown c.in_ok-clear_cell.ensures.grown;
      so_far =
          clear_more _ _ _ _ c.args.ends.now c.args.targets.now c.loop-target.target-index _ _ _ _ c.loop-target-test.true
          c.in_ok-clear_cell.ensures.grown c.in_ok-clear_cell.ensures.ok c.loop-target.invariant.so_far;
    }

pub returns-clause-ok : goal.returns-clause-ok
returns-clause-ok c = clear_whole _ _ _ _ c.args.targets.now c.loop-target.target-index _ _ c.loop-target-test.false c.loop-target.invariant.so_far
