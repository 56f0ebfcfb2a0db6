use Rattle.std.proofs.Common.{take}
use Rattle.run_world.specs.Seen as seen
use Rattle.gate_places.specs.Checks.{HaveTests}
use Rattle.gate_objects.specs.Releases.{stays}
use Rattle.gate_objects.proofs.releases.targets_stay.Given as goal

-- a gate for each pair so far
abbrev pub invariant-loop-pair : goal.invariant-loop-pair
invariant-loop-pair l =
    record {
      so_far : HaveTests l.net l.stored.locations.items (λ ps target. stays (seen.env l.here).layout ps target) (take l.pair-index l.pairs) l.tests.items;
    }
