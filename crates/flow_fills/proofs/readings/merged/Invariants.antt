use Rattle.bit_net.specs.Runs.{Grown}
use Rattle.flow_fills.proofs.Merging.{MergedSoFar}
use Rattle.flow_fills.proofs.readings.merged.Given as goal

-- the first readings are merged
abbrev pub invariant-loop-number : goal.invariant-loop-number
invariant-loop-number l =
    record {
      grown : Grown l.fn.net l.net;
      so_far : MergedSoFar l.net l.fn.when.at l.fn.new l.fn.old l.number l.made.items;
    }
