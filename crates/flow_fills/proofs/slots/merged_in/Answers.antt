use Rattle.std.proofs.Common.{◌∙◌, ap, subst, arith}
use Rattle.gate_copies.specs.Readings.{readings_top}
use Rattle.flow_fills.specs.Merged.{AreMerged}
use Rattle.flow_fills.proofs.KeptCells.{cells_are, cells_below}
use Rattle.flow_fills.proofs.slots.merged_in.Goals as goal

pub merged-requires-clause-old : goal.merged-requires-clause-old
merged-requires-clause-old c =
    omega (arith, ap readings_top c.as_slice.ensures.value, cells_below c.args.slots.now c.args.slot c.index-slots-slot.result c.requires.slot, c.requires.slots)

pub returns-clause-ok : goal.returns-clause-ok
returns-clause-ok c =
    subst (λ rs. AreMerged c.merged.new.net c.args.when.at c.args.cells.now rs c.in_ok-both.both.items)
    (c.as_slice.ensures.value ∙ cells_are c.args.slots.now c.args.slot c.index-slots-slot.result c.requires.slot) c.in_ok-both.ensures.ok
