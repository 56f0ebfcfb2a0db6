use Rattle.std.proofs.Common.{ap, subst, length, map, ◌∙◌}
use Rattle.std.proofs.lemmas.List.{length-map}
use Rattle.gl_sets.specs.Sets.{IsMoved}
use Rattle.gate_copies.specs.Objects.{cell_with, cells_in}
use Rattle.gate_copies.specs.Readings.{IsPut}
use Rattle.gate_copies.proofs.Copying.{is_stored}
use Rattle.gate_copies.proofs.copies.store_number.Goals as goal

pub moved-requires-clause-wide : goal.moved-requires-clause-wide
moved-requires-clause-wide c =
    ap length (c.as_slice.ensures.value ∙ c.in_ok-cells.ensures)
    ∙ length-map (map cells_in c.args.objects.now) (λ cells. cell_with cells c.args.number) ∙ length-map c.args.objects.now cells_in ∙ c.requires.wide

pub returns-clause-ok : goal.returns-clause-ok
returns-clause-ok c =
    is_stored c.args.live.at c.args.place.now.pairs.items (map cells_in c.args.objects.now) c.moved.new.net c.store_cell.new.net c.args.number
    c.in_ok-cells.cells.items c.in_ok-pointer.pointer.pairs.items c.args.reading.now c.args.stored.now.locations.items c.store_cell.new.stored.locations.items
    c.in_ok-store_cell.ensures.grown c.in_ok-cells.ensures
    (subst (λ ts. IsMoved c.moved.new.net c.args.place.now.pairs.items ts c.in_ok-pointer.pointer.pairs.items) c.as_slice.ensures.value c.in_ok-pointer.ensures.ok)
    (subst (λ gs. IsPut c.store_cell.new.net c.args.live.at c.in_ok-pointer.pointer.pairs.items gs c.args.stored.now.locations.items c.store_cell.new.stored.locations.items)
    c.as_slice-2.ensures.value c.in_ok-store_cell.ensures.ok)
