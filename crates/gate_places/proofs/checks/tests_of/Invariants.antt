use Rattle.std.proofs.Common.{take}
use Rattle.layout_base.specs.Seen as laid
use Rattle.sc_world.specs.View.{type}
use Rattle.gate_places.specs.Checks.{HaveTests, fails}
use Rattle.gate_places.proofs.checks.tests_of.Given as goal

-- a gate for each pair so far
abbrev pub invariant-loop-pair : goal.invariant-loop-pair
invariant-loop-pair l =
    record {
      so_far : HaveTests l.net l.store.locations.items (λ ps target. fails l.check (laid.layout_of l.places) (type l.t) ps target) (take l.pair-index l.pairs) l.tests.items;
    }
