use Rattle.std.proofs.Common.{◌≡◌, drop, map}
use Rattle.sc_world.specs.Known.{locks_stand}
use Rattle.run_world.specs.Seen.{env, world}
use Rattle.run_paths.specs.Seen.{locked}
use Rattle.run_known.proofs.LockRows.{both}
use Rattle.run_known.proofs.needs.locks_stand.Given as goal

abbrev pub invariant-loop-lock : goal.invariant-loop-lock
invariant-loop-lock l =
    both l.all (locks_stand (env l.here) l.given l.gives (map locked (drop l.lock-index l.locks)) (world l.store))
    ≡ locks_stand (env l.fn.here) l.fn.given l.fn.gives (map locked l.fn.locks) (world l.fn.store)
