use Rattle.std.proofs.Common.{◌≡◌, ◌+◌, ◌≤◌, length, drop, vec_capacity}
use Rattle.sc_world.specs.Exec.{declarators}
use Rattle.run_world.specs.Seen.{world, env}
use Rattle.run_inits.specs.Reads.{reads_at}
use Rattle.run_inits.specs.Room.{room_of_decs}
use Rattle.run_inits.specs.Seen.{decs_of, most}
use Rattle.run_inits.proofs.declaring.declarators.Given as goal

abbrev pub invariant-loop-d : goal.invariant-loop-d
invariant-loop-d g l = record {
  declared : declarators (decs_of l.here (drop l.d-index l.declarators)) (env l.here) (world l.world)
      ≡ declarators (decs_of l.fn.here l.fn.declarators) (env l.fn.here) (world l.fn.world);
  same : g.C.Calls.reads l.calls ≡ reads_at (env l.here);
  unchanged : g.C.Calls.reads l.calls ≡ g.C.Calls.reads l.fn.calls;
  locations : most l.here ≤ vec_capacity l.space.kept.cells;
  few_cells : vec_capacity l.fn.space.kept.cells ≤ vec_capacity l.space.kept.cells;
  few_events : length l.world.trace.items + room_of_decs l.here (drop l.d-index l.declarators)
      ≤ length l.fn.world.trace.items + room_of_decs l.fn.here l.fn.declarators;
  room : vec_capacity l.fn.world.trace ≤ vec_capacity l.world.trace;
  arguments : l.space.kept.arguments.items ≡ l.fn.space.kept.arguments.items;
  capacity : vec_capacity l.fn.space.kept.arguments ≤ vec_capacity l.space.kept.arguments;
  store_room : vec_capacity l.fn.space.stores ≤ vec_capacity l.space.stores;
  few_stores : room_of_decs l.here (drop l.d-index l.declarators) ≤ room_of_decs l.fn.here l.fn.declarators;
}
