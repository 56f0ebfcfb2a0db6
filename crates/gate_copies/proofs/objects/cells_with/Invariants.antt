use Rattle.std.proofs.Common.{◌≡◌, map, take}
use Rattle.gate_copies.specs.Objects.{cell_with}
use Rattle.gate_copies.proofs.objects.cells_with.Given as goal

-- the targets of the objects so far
abbrev pub invariant-loop-object : goal.invariant-loop-object
invariant-loop-object l =
    record {
      so_far : l.targets.items ≡ map (λ o. cell_with o.cells.items l.number) (take l.object-index l.objects);
    }
