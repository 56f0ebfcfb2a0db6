use Rattle.std.proofs.Common.{length, take}
use Rattle.bit_net.specs.Runs.{Grown}
use Rattle.run_world.specs.Seen as seen
use Rattle.gate_places.specs.Checks.{HaveTests}
use Rattle.gate_acts.specs.Acts.{is_open}
use Rattle.gate_acts.proofs.tries.open_each.Given as goal

-- a gate for each pair so far
abbrev pub invariant-loop-pair : goal.invariant-loop-pair
invariant-loop-pair l =
    record {
      grown : Grown l.fn.net l.net;
      so_far : HaveTests l.net l.stored.locations.items (λ ps target. is_open (length (seen.env l.here).layout.locations) ps target) (take l.pair-index l.pairs) l.tests.items;
    }
