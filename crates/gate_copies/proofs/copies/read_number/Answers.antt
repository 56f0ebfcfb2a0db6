use Rattle.std.proofs.Common.{ap, subst, length, map, ◌∙◌}
use Rattle.std.proofs.lemmas.List.{length-map}
use Rattle.run_world.specs.Seen as seen
use Rattle.gate_copies.specs.Objects.{cell_with, cells_in}
use Rattle.gate_copies.specs.Widths.{widths}
use Rattle.gate_copies.specs.Readings.{AreRead}
use Rattle.gate_copies.proofs.Copying.{is_read}
use Rattle.gate_copies.proofs.copies.read_number.Goals as goal

pub read_cell-requires-clause-wide : goal.read_cell-requires-clause-wide
read_cell-requires-clause-wide c =
    ap length (c.as_slice.ensures.value ∙ c.in_ok-cells.ensures)
    ∙ length-map (map cells_in c.args.objects.now) (λ cells. cell_with cells c.args.number) ∙ length-map c.args.objects.now cells_in ∙ c.requires.wide

pub returns-clause-ok : goal.returns-clause-ok
returns-clause-ok c =
    is_read (seen.env c.args.here.now).source (seen.env c.args.here.now).layout c.args.store.now.locations.items c.args.from.now.pairs.items
    (map cells_in c.args.objects.now) _ c.args.number c.in_ok-cells.cells.items c.in_ok-reading.reading c.in_ok-cells.ensures
    (subst (λ ts. AreRead c.read_cell.new.net (seen.env c.args.here.now).source (seen.env c.args.here.now).layout c.args.store.now.locations.items c.args.from.now.pairs.items ts widths c.in_ok-reading.reading.vals.items)
    c.as_slice.ensures.value c.in_ok-reading.ensures.ok)
