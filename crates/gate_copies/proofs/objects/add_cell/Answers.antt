use Rattle.std.proofs.Common.{refl, sym, ◌∙◌}
use Rattle.layout_base.specs.Seen as laid
use Rattle.gate_copies.proofs.Collecting.{cell_added, cell_passed}
use Rattle.gate_copies.proofs.objects.add_cell.Goals as goal

pub returns-then-not-belongs : goal.returns-then-not-belongs
returns-then-not-belongs c =
    cell_passed (laid.layout_of c.args.places.now) c.args.at c.args.k _ c.requires.low (sym c.belongs.ensures ∙ c.if-not-belongs.true)

pub returns : goal.returns
returns c =
    cell_added (laid.layout_of c.args.places.now) c.args.at c.args.k _ _ _ c.requires.low (sym c.belongs.ensures ∙ c.if-not-belongs.false) refl c.in_ok-push.ensures.items
