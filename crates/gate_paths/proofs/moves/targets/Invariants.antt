use Rattle.std.proofs.Common.{◌≡◌, map, take}
use Rattle.gl_sets.specs.Guards.{targets_of}
use Rattle.layout_base.specs.Seen as laid
use Rattle.gate_paths.specs.Targets.{gone}
use Rattle.gate_paths.proofs.moves.targets.Given as goal

-- where the targets of the pairs so far go
abbrev pub invariant-loop-pair : goal.invariant-loop-pair
invariant-loop-pair l =
    record { so_far : map (λ t. gone (laid.layout_of l.layout.places.now) l.by t) (targets_of (take l.pair-index l.pairs)) ≡ l.made.items }
