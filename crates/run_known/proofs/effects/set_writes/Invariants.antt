use Rattle.std.proofs.Common.{◌≡◌, drop, map}
use Rattle.sc_world.specs.Known.{set_writes}
use Rattle.run_world.specs.Seen.{env, world}
use Rattle.run_paths.specs.Seen.{written}
use Rattle.run_known.proofs.effects.set_writes.Given as goal

abbrev pub invariant-loop-x : goal.invariant-loop-x
invariant-loop-x l =
    (set_writes (env l.here) (map written (drop l.x-index l.writes)) (world l.world)
    ≡ set_writes (env l.fn.here) (map written l.fn.writes) (world l.fn.world))
    × (l.world.trace ≡ l.fn.world.trace)
