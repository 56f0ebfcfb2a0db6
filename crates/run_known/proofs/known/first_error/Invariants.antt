use Rattle.std.proofs.Common.{◌≡◌, drop, map}
use Rattle.sc_world.specs.Known.{first_error}
use Rattle.run_world.specs.Seen.{env}
use Rattle.run_paths.specs.Seen.{locked}
use Rattle.run_known.proofs.known.first_error.Given as goal

abbrev pub invariant-loop-lock : goal.invariant-loop-lock
invariant-loop-lock l =
    first_error (env l.here) (map locked (drop l.lock-index l.locks)) ≡ first_error (env l.fn.here) (map locked l.fn.locks)
