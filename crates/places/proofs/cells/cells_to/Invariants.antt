use Rattle.std.proofs.Common.{◌≡◌, ◌-◌}
use Rattle.sc_world.specs.Occurrences.{cells_from}
use Rattle.layout_base.specs.Seen.{ground_of, layout_of}
use Rattle.places.proofs.cells.cells_to.Given as goal

abbrev pub invariant-loop-at : goal.invariant-loop-at
invariant-loop-at l =
    cells_from (l.end - l.at) l.at l.root (ground_of l.ground).source (layout_of l.laid)
    ≡ cells_from (l.fn.end - l.fn.root) l.fn.root l.fn.root (ground_of l.fn.ground).source (layout_of l.fn.laid)
