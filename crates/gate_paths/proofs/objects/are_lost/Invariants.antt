use Rattle.std.proofs.Common.{take}
use Rattle.layout_base.specs.Seen as laid
use Rattle.gate_places.specs.Checks.{HaveTests}
use Rattle.gate_paths.specs.Targets.{is_lost}
use Rattle.gate_paths.proofs.objects.are_lost.Given as goal

-- a gate for each pair so far
abbrev pub invariant-loop-pair : goal.invariant-loop-pair
invariant-loop-pair l =
    record {
      so_far : HaveTests l.net l.store.locations.items (λ ps target. is_lost (laid.layout_of l.layout.places.now) ps target) (take l.pair-index l.pairs)
          l.tests.items;
    }
