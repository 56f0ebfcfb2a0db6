use Rattle.std.proofs.Common.{ap, subst, arith, slice_get}
use Rattle.bit_net.proofs.Growth.{Grown-refl, Grown-trans}
use Rattle.gate_copies.specs.Readings.{guarded_top}
use Rattle.gate_inits.specs.Inits.{IsSetAt}
use Rattle.gate_inits.proofs.CellsSet.{reading_top, set_none, set_more, set_whole}
use Rattle.gate_inits.proofs.filling.set_cells.Goals as goal

pub loop-number-init : goal.loop-number-init
loop-number-init c = record { grown = Grown-refl _; so_far = set_none _ _ _ _ _ c.requires.store }

pub set_cell-requires-clause-reading : goal.set_cell-requires-clause-reading
set_cell-requires-clause-reading c =
    let top = reading_top c.args.cells.now c.loop-number.number c.index-cells-number.result (omega arith) in
    omega (arith, ap (λ r. guarded_top r.vals.items) c.index-cells-number.is, top, c.requires.cells, c.loop-number.invariant.grown.longer)

pub loop-number-preserved : goal.loop-number-preserved
loop-number-preserved c =
    record {
      grown = Grown-trans _ _ _ c.loop-number.invariant.grown c.in_ok-set_cell.ensures.grown;
      so_far =
          set_more _ _ c.args.ends.now c.args.object.now.cells.items c.args.cells.now c.loop-number.number c.index-cells-number.result _ _ _ (omega arith)
          c.in_ok-set_cell.ensures.grown
          (subst (λ r. IsSetAt c.set_cell.new.net c.args.ends.now.live.at (slice_get c.args.object.now.cells.items c.loop-number.number) r.vals.items c.loop-number.stored.locations.items c.set_cell.new.stored.locations.items)
          c.index-cells-number.is c.in_ok-set_cell.ensures.ok)
          c.loop-number.invariant.so_far;
    }

pub returns-clause-ok : goal.returns-clause-ok
returns-clause-ok c = set_whole _ _ _ _ c.loop-number.number _ _ (omega arith) c.loop-number.invariant.so_far
