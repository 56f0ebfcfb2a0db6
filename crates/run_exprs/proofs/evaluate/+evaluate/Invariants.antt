use Rattle.std.proofs.Common.{◌≡◌, ◌+◌, ◌≤◌, ◌++◌, length, map, take, drop, vec_capacity}
use Rattle.sc_world.specs.World.{goes_on, done}
use Rattle.sc_world.specs.Eval as spec
use Rattle.run_world.specs.Seen.{cell, world, env}
use Rattle.run_exprs.specs.Room.{room_all}
use Rattle.run_exprs.specs.Seen.{arguments_of}
use Rattle.run_exprs.proofs.evaluate.+evaluate.Given as goal

abbrev pub invariant-eval_all-loop-e : goal.invariant-eval_all-loop-e
invariant-eval_all-loop-e g l = record {
  evaluated : goes_on (spec.eval_all (arguments_of (env l.here).source.structs (drop l.e-index l.args)) (env l.here) (world l.world))
      (λ vs. done (map cell (drop (length l.fn.kept.arguments.items) l.kept.arguments.items) ++ vs))
      ≡ spec.eval_all (arguments_of (env l.fn.here).source.structs l.fn.args) (env l.fn.here) (world l.fn.world);
  longer : length l.fn.kept.arguments.items ≤ length l.kept.arguments.items;
  front : take (length l.fn.kept.arguments.items) l.kept.arguments.items ≡ l.fn.kept.arguments.items;
  same : g.C.Calls.reads l.calls l.here.turn ≡ env l.here;
  unchanged : g.C.Calls.reads l.calls ≡ g.C.Calls.reads l.fn.calls;
  locations : length (env l.here).layout.locations ≤ vec_capacity l.kept.cells;
  few_cells : vec_capacity l.fn.kept.cells ≤ vec_capacity l.kept.cells;
  few_events : length l.world.trace.items + room_all (arguments_of (env l.here).source.structs (drop l.e-index l.args))
      ≤ length l.fn.world.trace.items + room_all (arguments_of (env l.fn.here).source.structs l.fn.args);
  room : vec_capacity l.fn.world.trace ≤ vec_capacity l.world.trace;
  few_arguments : length l.kept.arguments.items + room_all (arguments_of (env l.here).source.structs (drop l.e-index l.args))
      ≤ length l.fn.kept.arguments.items + room_all (arguments_of (env l.fn.here).source.structs l.fn.args);
  capacity : vec_capacity l.fn.kept.arguments ≤ vec_capacity l.kept.arguments;
}
