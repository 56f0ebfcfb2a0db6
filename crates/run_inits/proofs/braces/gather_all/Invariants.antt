use Rattle.std.proofs.Common.{◌≡◌, ◌+◌, ◌≤◌, length, map, drop, vec_capacity}
use Rattle.run_world.specs.Seen.{world, env}
use Rattle.run_inits.specs.Reads.{reads_at}
use Rattle.run_inits.specs.Room.{room_of_givens}
use Rattle.run_inits.specs.Seen.{givens_of, most}
use Rattle.run_inits.specs.Stores.{due_of, joined, all_stores}
use Rattle.run_inits.proofs.braces.gather_all.Given as goal

abbrev pub invariant-loop-item : goal.invariant-loop-item
invariant-loop-item g l = record {
  gathered : joined (map due_of l.space.stores.items)
      (all_stores (env l.here) l.at (givens_of l.here (drop l.item-index l.items)) (world l.world))
      ≡ all_stores (env l.fn.here) l.fn.at (givens_of l.fn.here l.fn.items) (world l.fn.world);
  same : g.C.Calls.reads l.calls ≡ reads_at (env l.here);
  unchanged : g.C.Calls.reads l.calls ≡ g.C.Calls.reads l.fn.calls;
  locations : most l.here ≤ vec_capacity l.space.kept.cells;
  few_cells : vec_capacity l.fn.space.kept.cells ≤ vec_capacity l.space.kept.cells;
  few_events : length l.world.trace.items + room_of_givens l.here (drop l.item-index l.items)
      ≤ length l.fn.world.trace.items + room_of_givens l.fn.here l.fn.items;
  room : vec_capacity l.fn.world.trace ≤ vec_capacity l.world.trace;
  arguments : l.space.kept.arguments.items ≡ l.fn.space.kept.arguments.items;
  capacity : vec_capacity l.fn.space.kept.arguments ≤ vec_capacity l.space.kept.arguments;
  few_stores : length l.space.stores.items + room_of_givens l.here (drop l.item-index l.items)
      ≤ room_of_givens l.fn.here l.fn.items;
  store_room : vec_capacity l.fn.space.stores ≤ vec_capacity l.space.stores;
}
