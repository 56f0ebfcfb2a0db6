use Rattle.std.proofs.Common.{◌∙◌, ap, arith}
use Rattle.flow_fills.proofs.KeptCells.{cells_are}
use Rattle.flow_fills.proofs.Fills.{slot_high}
use Rattle.flow_fills.proofs.filling.cells_of.Goals as goal

pub returns-in-Some : goal.returns-in-Some
returns-in-Some c =
    let x = c.in-Some.slot.now in
    let there = c.in-Some.ensures.lookup.3 in
    c.as_slice.ensures.value ∙ (ap (λ y. y.cells.items) (there.1 x) ∙ cells_are c.args.slots.now c.args.slot x there.0)

pub returns-in-None : goal.returns-in-None
returns-in-None c = slot_high c.args.slots.now c.args.slot (omega (arith, c.in-None.ensures.lookup.3))
