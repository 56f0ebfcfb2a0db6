use Rattle.std.proofs.Common.{◌≡◌, ◌≤◌, ◌++◌, length, map, vec_capacity}
use Rattle.run_store.specs.Concrete.{nth_cell}
use Rattle.run_world.specs.Seen.{cell, world, env}
use Rattle.run_values.specs.Objects.{cells_from}
use Rattle.run_inits.proofs.cells.load_cells.Given as goal

abbrev pub invariant-loop-k : goal.invariant-loop-k
invariant-loop-k l = record {
  loaded : map cell l.values.items ++ map (nth_cell (world l.world).places) (cells_from (env l.here).layout l.at l.k)
      ≡ map (nth_cell (world l.world).places) (cells_from (env l.here).layout l.at 0);
  few : length l.values.items ≤ l.k;
  room : length (env l.here).layout.locations ≤ vec_capacity l.values;
  capacity : vec_capacity l.fn.values ≤ vec_capacity l.values;
}
