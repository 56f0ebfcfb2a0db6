use Rattle.std.proofs.Common.{◌≡◌, length, take}
use Rattle.bit_net.specs.Runs.{Grown}
use Rattle.gate_runs.specs.Stands.{AreEnds}
use Rattle.run_world.specs.Seen as seen
use Rattle.gate_acts.specs.Acts.{OperatesEach}
use Rattle.gate_acts.proofs.operations.operate_each.Given as goal

-- the operation is done on the targets so far
abbrev pub invariant-loop-pair : goal.invariant-loop-pair
invariant-loop-pair l =
    record {
      grown : Grown l.fn.net l.net;
      ready : AreEnds l.net l.ends;
      bads : length l.ends.bads.items ≡ length l.fn.ends.bads.items;
      so_far : OperatesEach (seen.env l.here).source (seen.env l.here).layout l.net l.operation (length l.fn.ends.bads.items) (take l.pair-index l.pairs)
          l.fn.stored.locations.items l.stored.locations.items l.fn.ends l.ends;
    }
