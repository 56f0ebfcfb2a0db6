use Rattle.std.proofs.Common.{◌≡◌, ◌+◌, ◌≤◌, take}
use Rattle.bit_net.specs.Runs.{Grown}
use Rattle.layout_base.specs.Seen as laid
use Rattle.sc_world.specs.Known.{is_lock}
use Rattle.gate_paths.specs.Gathered.{FindsLocks, spot_after}
use Rattle.gate_paths.proofs.gathered.locks.Given as goal

-- the items so far, and the spot behind them
abbrev pub invariant-loop-x : goal.invariant-loop-x
invariant-loop-x l =
    record {
      grown : Grown l.fn.net l.net;
      spot : l.k ≡ spot_after is_lock l.fn.spot (take l.x-index l.items);
      most : l.k ≤ l.fn.spot + l.x-index;
      so_far : FindsLocks l.net (laid.layout_of l.layout.places.now) l.store.locations.items l.args l.fn.spot (take l.x-index l.items) l.found.items;
    }
