use Rattle.std.proofs.Common.{◌≡◌, drop}
use Rattle.sc_world.specs.Known.{follow}
use Rattle.run_world.specs.Seen.{env, world}
use Rattle.run_paths.specs.Seen.{come}
use Rattle.run_paths.proofs.follow.follow.Given as goal

abbrev pub invariant-loop-step : goal.invariant-loop-step
invariant-loop-step l =
    follow (env l.here) (drop l.step-index l.steps) (come l.come) (world l.store)
    ≡ follow (env l.fn.here) l.fn.steps (come l.fn.begin) (world l.fn.store)
