use Rattle.std.proofs.Common.{◌≡◌, map, take}
use Rattle.layout_base.specs.Seen as laid
use Rattle.sc_world.specs.View.{type}
use Rattle.gate_copies.specs.Objects.{cells_in, object_targets}
use Rattle.gate_copies.proofs.objects.objects_of.Given as goal

-- the objects of the pairs so far
abbrev pub invariant-loop-pair : goal.invariant-loop-pair
invariant-loop-pair l =
    record {
      so_far : map cells_in l.made.items ≡ map (λ p. object_targets (laid.layout_of l.places) (type l.t) p.target) (take l.pair-index l.pairs);
    }
