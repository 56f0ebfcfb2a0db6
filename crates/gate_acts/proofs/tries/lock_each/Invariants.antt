use Rattle.std.proofs.Common.{take}
use Rattle.bit_net.specs.Runs.{Grown}
use Rattle.run_world.specs.Seen as seen
use Rattle.gate_acts.specs.Acts.{LocksEach}
use Rattle.gate_acts.proofs.tries.lock_each.Given as goal

-- the targets so far are locked
abbrev pub invariant-loop-pair : goal.invariant-loop-pair
invariant-loop-pair l =
    record {
      grown : Grown l.fn.net l.net;
      so_far : LocksEach (seen.env l.here).source (seen.env l.here).layout l.net l.had.at (take l.pair-index l.pairs) l.fn.stored.locations.items l.stored.locations.items;
    }
