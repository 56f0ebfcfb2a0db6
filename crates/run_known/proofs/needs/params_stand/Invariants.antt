use Rattle.std.proofs.Common.{◌≡◌, ◌+◌, ◌≤◌, drop, map}
use Rattle.sc_world.specs.Known.{params_stand}
use Rattle.run_world.specs.Seen.{cell, env}
use Rattle.run_known.proofs.needs.params_stand.Given as goal

abbrev pub invariant-loop-x : goal.invariant-loop-x
invariant-loop-x l =
    (params_stand (env l.here) (map cell l.arguments) l.given l.gives l.k (drop l.x-index l.items)
    ≡ params_stand (env l.fn.here) (map cell l.fn.arguments) l.fn.given l.fn.gives l.fn.spot l.fn.items)
    × (l.k ≤ l.spot + l.x-index)
