use Rattle.std.proofs.Common.{◌≡◌, ◌++◌, suc, map}
use Rattle.layout_base.specs.Seen as laid
use Rattle.run_values.specs.Objects.{cells_from}
use Rattle.gate_copies.specs.Objects.{cell_targets}
use Rattle.gate_copies.proofs.objects.cells_of.Given as goal

-- the targets so far, and those of the cells from location k on
abbrev pub invariant-loop-k : goal.invariant-loop-k
invariant-loop-k l =
    record {
      so_far : l.cells.items ++ map suc (cells_from (laid.layout_of l.places) l.at l.k) ≡ cell_targets (laid.layout_of l.places) l.at;
    }
