use Rattle.std.proofs.Common.{◌≤◌, length, ◌∙◌, arith}
use Rattle.layout_base.specs.Seen as laid
use Rattle.gate_copies.proofs.Collecting.{cells_first, cells_last}
use Rattle.gate_copies.proofs.objects.cells_of.Goals as goal

pub loop-k-init : goal.loop-k-init
loop-k-init c = record { so_far = cells_first (laid.layout_of c.args.places.now) c.args.at _ c.new-cells.ensures.items }

pub loop-k-preserved : goal.loop-k-preserved
loop-k-preserved c = record { so_far = c.in_ok-add_cell.ensures ∙ c.loop-k.invariant.so_far }

pub returns : goal.returns
returns c =
    let past : length (laid.layout_of c.args.places.now).locations ≤ c.loop-k.k = omega arith in
    cells_last (laid.layout_of c.args.places.now) c.args.at c.loop-k.k _ past c.loop-k.invariant.so_far
