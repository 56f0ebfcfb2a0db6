use Rattle.std.proofs.Common.{◌≡◌, ◌≤◌, length, map, drop}
use Rattle.sc_world.specs.Eval.{store_all}
use Rattle.run_world.specs.Seen.{cell, world, env}
use Rattle.run_values.specs.Objects.{cells_from}
use Rattle.run_values.proofs.objects.store_cells.Given as goal

abbrev pub invariant-loop-k : goal.invariant-loop-k
invariant-loop-k l = record {
  stored : store_all (cells_from (env l.here).layout l.at l.k) (map cell (drop l.next l.values)) (world l.world)
      ≡ store_all (cells_from (env l.here).layout l.at 0) (map cell l.fn.values) (world l.fn.world);
  few : l.next ≤ length l.values;
  trace : l.world.trace ≡ l.fn.world.trace;
}
