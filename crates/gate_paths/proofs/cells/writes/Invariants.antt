use Rattle.std.proofs.Common.{◌≡◌, ◌+◌, ◌≤◌, take}
use Rattle.bit_net.specs.Runs.{Grown}
use Rattle.layout_base.specs.Seen as laid
use Rattle.gate_paths.specs.Cells.{FindsWrites, spot_behind_cells}
use Rattle.gate_paths.proofs.cells.writes.Given as goal

-- the cells so far, and the spot behind them
abbrev pub invariant-loop-x : goal.invariant-loop-x
invariant-loop-x l =
    record {
      grown : Grown l.fn.net l.net;
      spot : l.k ≡ spot_behind_cells l.fn.items l.fn.spot (take l.x-index l.cells);
      most : l.k ≤ l.fn.spot + l.x-index;
      so_far : FindsWrites l.net (laid.layout_of l.layout.places.now) l.store.locations.items l.args l.items l.fn.spot (take l.x-index l.cells) l.found.items;
    }
