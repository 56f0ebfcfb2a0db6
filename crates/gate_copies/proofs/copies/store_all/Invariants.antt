use Rattle.std.proofs.Common.{map}
use Rattle.bit_net.specs.Runs.{Grown}
use Rattle.gate_copies.specs.Objects.{cells_in}
use Rattle.gate_copies.specs.Copies.{HaveStored}
use Rattle.gate_copies.proofs.copies.store_all.Given as goal

-- the first readings are stored
abbrev pub invariant-loop-number : goal.invariant-loop-number
invariant-loop-number l =
    record {
      grown : Grown l.fn.net l.net;
      so_far : HaveStored l.net l.fn.live.at l.fn.place.pairs.items (map cells_in l.fn.objects) l.fn.readings l.number l.fn.stored.locations.items l.stored.locations.items;
    }
