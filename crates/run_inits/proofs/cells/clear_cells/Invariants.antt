use Rattle.std.proofs.Common.{◌≡◌}
use Rattle.sc_world.specs.Exec.{clear}
use Rattle.run_world.specs.Seen.{world, env}
use Rattle.run_values.specs.Objects.{cells_from}
use Rattle.run_inits.proofs.cells.clear_cells.Given as goal

abbrev pub invariant-loop-k : goal.invariant-loop-k
invariant-loop-k l = record {
  cleared : clear (env l.here) (cells_from (env l.here).layout l.at l.k) (world l.world)
      ≡ clear (env l.here) (cells_from (env l.here).layout l.at 0) (world l.fn.world);
  trace : l.world.trace ≡ l.fn.world.trace;
}
