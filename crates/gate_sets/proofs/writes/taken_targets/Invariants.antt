use Rattle.std.proofs.Common.{◌≡◌, map, take}
use Rattle.gl_sets.specs.Guards.{targets_of}
use Rattle.run_world.specs.Seen as seen
use Rattle.gate_sets.specs.Writes.{taken_target}
use Rattle.gate_sets.proofs.writes.taken_targets.Given as goal

-- where the targets of the pairs so far go
abbrev pub invariant-loop-pair : goal.invariant-loop-pair
invariant-loop-pair l =
    record {
      so_far :
          map (λ t. taken_target (seen.env l.here).source (seen.env l.here).layout l.width t) (targets_of (take l.pair-index l.pairs)) ≡ l.targets.items;
    }
