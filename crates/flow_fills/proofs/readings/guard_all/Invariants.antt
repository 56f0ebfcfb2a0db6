use Rattle.bit_net.specs.Runs.{Grown}
use Rattle.flow_fills.proofs.Merging.{GuardedSoFar}
use Rattle.flow_fills.proofs.readings.guard_all.Given as goal

-- the first values are guarded
abbrev pub invariant-loop-guarded : goal.invariant-loop-guarded
invariant-loop-guarded l =
    record {
      grown : Grown l.fn.net l.net;
      so_far : GuardedSoFar l.net l.fn.when.at l.fn.vals l.guarded-index l.made.items;
    }
