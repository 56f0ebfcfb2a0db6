use Rattle.bit_net.specs.Runs.{Grown}
use Rattle.gate_copies.proofs.Putting.{PutSoFar}
use Rattle.gate_copies.proofs.readings.store_cell.Given as goal

-- what counts of the first values is stored
abbrev pub invariant-loop-guarded : goal.invariant-loop-guarded
invariant-loop-guarded l =
    record {
      grown : Grown l.fn.net l.net;
      so_far : PutSoFar l.net l.fn.live.at l.fn.at.pairs.items l.fn.vals l.guarded-index l.fn.stored.locations.items l.stored.locations.items;
    }
