use Rattle.std.proofs.Common.{◌≡◌, length, map, take}
use Rattle.gl_sets.specs.Guards.{targets_of}
use Rattle.run_world.specs.Seen as seen
use Rattle.gate_sets.specs.States.{state_target}
use Rattle.gate_sets.proofs.states.state_targets.Given as goal

-- the targets of the states so far
abbrev pub invariant-loop-pair : goal.invariant-loop-pair
invariant-loop-pair l =
    record { so_far : map (λ t. state_target (length (seen.env l.here).layout.locations) t) (targets_of (take l.pair-index l.pairs)) ≡ l.targets.items }
