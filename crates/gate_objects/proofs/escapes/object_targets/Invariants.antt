use Rattle.std.proofs.Common.{◌≡◌, map, take}
use Rattle.gl_sets.specs.Guards.{targets_of}
use Rattle.run_world.specs.Seen as seen
use Rattle.gate_objects.specs.Escapes.{object_target}
use Rattle.gate_objects.proofs.escapes.object_targets.Given as goal

-- the targets of the pairs so far
abbrev pub invariant-loop-pair : goal.invariant-loop-pair
invariant-loop-pair l =
    record { so_far : map (λ t. object_target (seen.env l.here).layout t) (targets_of (take l.pair-index l.pairs)) ≡ l.targets.items }
