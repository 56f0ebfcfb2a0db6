use Rattle.std.proofs.Common.{◌≡◌, ◌+◌, ◌≤◌, drop, map}
use Rattle.sc_world.specs.Known.{params_act}
use Rattle.run_world.specs.Seen.{cell, env, world}
use Rattle.run_known.proofs.effects.params_act.Given as goal

abbrev pub invariant-loop-x : goal.invariant-loop-x
invariant-loop-x l =
    (params_act (env l.here) (map cell l.arguments) l.k (drop l.x-index l.items) (world l.world)
    ≡ params_act (env l.fn.here) (map cell l.fn.arguments) l.fn.spot l.fn.items (world l.fn.world))
    × (l.world.trace ≡ l.fn.world.trace)
    × (l.k ≤ l.spot + l.x-index)
