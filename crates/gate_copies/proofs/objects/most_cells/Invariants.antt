use Rattle.std.proofs.Common.{◌≡◌, map, take}
use Rattle.gate_copies.specs.Objects.{cells_in, most}
use Rattle.gate_copies.proofs.objects.most_cells.Given as goal

-- how many cells an object so far has at most
abbrev pub invariant-loop-object : goal.invariant-loop-object
invariant-loop-object l = record { so_far : l.most ≡ most (map cells_in (take l.object-index l.objects)) }
