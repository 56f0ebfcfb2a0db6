use Rattle.std.proofs.Common.{◌≡◌, ◌+◌, ◌≤◌, ◌++◌, length, map, drop, vec_capacity}
use Rattle.run_world.specs.Seen.{cell, env}
use Rattle.run_values.specs.Objects.{cells_from}
use Rattle.run_inits.specs.Stores.{due_of, paired}
use Rattle.run_inits.proofs.stores.pair_cells.Given as goal

abbrev pub invariant-loop-k : goal.invariant-loop-k
invariant-loop-k l = record {
  pairs : map due_of l.stores.items ++ paired (cells_from (env l.here).layout l.at l.k)
      (map cell (drop l.next l.values))
      ≡ map due_of l.fn.stores.items ++ paired (cells_from (env l.here).layout l.at 0) (map cell l.fn.values);
  low : l.next ≤ length l.values;
  few : length l.stores.items ≤ length l.fn.stores.items + l.next;
  capacity : vec_capacity l.fn.stores ≤ vec_capacity l.stores;
}
