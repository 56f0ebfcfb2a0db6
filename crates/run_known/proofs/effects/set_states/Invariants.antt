use Rattle.std.proofs.Common.{◌≡◌, drop, map}
use Rattle.sc_world.specs.Known.{set_states, state_after}
use Rattle.run_world.specs.Seen.{env, world}
use Rattle.run_paths.specs.Seen.{locked}
use Rattle.run_known.proofs.effects.set_states.Given as goal

abbrev pub invariant-loop-lock : goal.invariant-loop-lock
invariant-loop-lock l =
    (set_states (env l.here) (map (state_after (env l.here)) (map locked (drop l.lock-index l.locks))) (map locked (drop l.lock-index l.locks)) (world l.world)
    ≡ set_states (env l.fn.here) (map (state_after (env l.fn.here)) (map locked l.fn.locks)) (map locked l.fn.locks) (world l.fn.world))
    × (l.world.trace ≡ l.fn.world.trace)
