use Rattle.std.proofs.Common.{map}
use Rattle.bit_net.specs.Runs.{Grown}
use Rattle.run_world.specs.Seen as seen
use Rattle.gate_copies.specs.Objects.{cells_in}
use Rattle.gate_copies.specs.Copies.{HaveRead}
use Rattle.gate_copies.proofs.copies.read_all.Given as goal

-- the first cells are read
abbrev pub invariant-loop-number : goal.invariant-loop-number
invariant-loop-number l =
    record {
      grown : Grown l.fn.net l.net;
      so_far : HaveRead l.net (seen.env l.fn.here).source (seen.env l.fn.here).layout l.fn.store.locations.items l.fn.from.pairs.items (map cells_in l.fn.objects) l.number l.readings.items;
    }
