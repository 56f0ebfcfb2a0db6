use Rattle.bit_net.specs.Runs.{Grown}
use Rattle.run_world.specs.Seen as seen
use Rattle.gate_copies.specs.Readings.{AreRead}
use Rattle.gate_copies.proofs.readings.read_cell.Given as goal

-- the values of the first widths are read
abbrev pub invariant-loop-number : goal.invariant-loop-number
invariant-loop-number l =
    record {
      grown : Grown l.fn.net l.net;
      so_far : AreRead l.net (seen.env l.fn.here).source (seen.env l.fn.here).layout l.fn.store.locations.items l.fn.from.pairs.items l.fn.targets l.number l.vals.items;
    }
