use Rattle.std.proofs.Common.{◌≡◌, ◌+◌, ◌-◌, ◌≤◌, length, drop, vec_capacity}
use Rattle.sc_world.specs.Exec.{exec, exec_all}
use Rattle.run_world.specs.Seen.{world, env}
use Rattle.run_inits.specs.Reads.{reads_at}
use Rattle.run_inits.specs.Seen.{most}
use Rattle.run_stmts.specs.Loops.{loop_stm, loops, turns_room}
use Rattle.run_stmts.specs.Room.{Fits, room_of, room_of_items, room_of_turns}
use Rattle.run_stmts.specs.Seen.{seek, loop_of}
use Rattle.run_stmts.specs.Trees.{stm_of, stms_of}
use Rattle.run_stmts.proofs.execute.+execute.Given as goal

abbrev pub invariant-exec_items-loop-x : goal.invariant-exec_items-loop-x
invariant-exec_items-loop-x g l = record {
  executed : exec_all (stms_of l.here (drop l.x-index l.xs)) (seek l.sought) (env l.here) (world l.world)
      ≡ exec_all (stms_of l.fn.here l.fn.xs) (seek l.fn.seek) (env l.fn.here) (world l.fn.world);
  few_events : length l.world.trace.items + room_of_items l.here (drop l.x-index l.xs)
      ≤ length l.fn.world.trace.items + room_of_items l.fn.here l.fn.xs;
  few : room_of_items l.here (drop l.x-index l.xs) ≤ room_of_items l.fn.here l.fn.xs;
  fits : Fits l.here.turn (room_of_items l.here (drop l.x-index l.xs));
  same : g.C.Calls.reads l.calls ≡ reads_at (env l.here);
  unchanged : g.C.Calls.reads l.calls ≡ g.C.Calls.reads l.fn.calls;
  locations : most l.here ≤ vec_capacity l.space.kept.cells;
  few_cells : vec_capacity l.fn.space.kept.cells ≤ vec_capacity l.space.kept.cells;
  room : vec_capacity l.fn.world.trace ≤ vec_capacity l.world.trace;
  arguments : l.space.kept.arguments.items ≡ l.fn.space.kept.arguments.items;
  capacity : vec_capacity l.fn.space.kept.arguments ≤ vec_capacity l.space.kept.arguments;
  store_room : vec_capacity l.fn.space.stores ≤ vec_capacity l.space.stores;
}

abbrev pub invariant-exec_loop-loop-turn : goal.invariant-exec_loop-loop-turn
invariant-exec_loop-loop-turn g l = record {
  executed : loops (loop_of (env l.here).source.structs l.tests) l.pos (env l.here) (stm_of l.here l.body)
      ((env l.here).source.depth - l.turn) l.turn (world l.world)
      ≡ exec (loop_stm (loop_of (env l.fn.here).source.structs l.fn.tests) l.fn.pos (stm_of l.fn.here l.fn.body))
      (env l.fn.here) (world l.fn.world);
  few_events : length l.world.trace.items
      + turns_room (loop_of (env l.here).source.structs l.tests) ((env l.here).source.depth - l.turn)
      (room_of l.here l.body)
      ≤ length l.fn.world.trace.items
      + room_of_turns l.fn.here (loop_of (env l.fn.here).source.structs l.fn.tests) l.fn.body;
  same : g.C.Calls.reads l.calls ≡ reads_at (env l.here);
  unchanged : g.C.Calls.reads l.calls ≡ g.C.Calls.reads l.fn.calls;
  locations : most l.here ≤ vec_capacity l.space.kept.cells;
  few_cells : vec_capacity l.fn.space.kept.cells ≤ vec_capacity l.space.kept.cells;
  room : vec_capacity l.fn.world.trace ≤ vec_capacity l.world.trace;
  arguments : l.space.kept.arguments.items ≡ l.fn.space.kept.arguments.items;
  capacity : vec_capacity l.fn.space.kept.arguments ≤ vec_capacity l.space.kept.arguments;
  store_room : vec_capacity l.fn.space.stores ≤ vec_capacity l.space.stores;
}
