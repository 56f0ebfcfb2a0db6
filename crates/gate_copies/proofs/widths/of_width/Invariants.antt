use Rattle.std.proofs.Common.{◌≡◌, map, take}
use Rattle.run_world.specs.Seen as seen
use Rattle.gate_copies.specs.Widths.{of_width}
use Rattle.gate_copies.proofs.widths.of_width.Given as goal

-- the targets so far
abbrev pub invariant-loop-target : goal.invariant-loop-target
invariant-loop-target l =
    record {
      so_far : l.made.items ≡ map (λ t. of_width (seen.env l.here).source (seen.env l.here).layout l.number t) (take l.target-index l.targets);
    }
