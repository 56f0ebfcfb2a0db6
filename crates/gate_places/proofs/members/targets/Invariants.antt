use Rattle.std.proofs.Common.{◌≡◌, map, take}
use Rattle.gl_sets.specs.Guards.{targets_of}
use Rattle.layout_base.specs.Seen as laid
use Rattle.gate_places.specs.Places.{part_target}
use Rattle.gate_places.proofs.members.targets.Given as goal

-- the targets of the pairs so far
abbrev pub invariant-loop-pair : goal.invariant-loop-pair
invariant-loop-pair l =
    record {
      so_far : map (λ t. part_target (laid.layout_of l.layout.places.now) l.way t) (targets_of (take l.pair-index l.pairs)) ≡ l.made.items;
    }
