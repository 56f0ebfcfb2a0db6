use Rattle.std.proofs.Common.{◌≡◌, drop, map}
use Rattle.sc_world.specs.Eval.{escape_all}
use Rattle.run_world.specs.Seen.{cell, env, world}
use Rattle.run_calls.proofs.built_in.escape_all.Given as goal

abbrev pub invariant-loop-argument : goal.invariant-loop-argument
invariant-loop-argument l =
    (escape_all (env l.here) (map cell (drop l.argument-index l.arguments)) (world l.world)
    ≡ escape_all (env l.fn.here) (map cell l.fn.arguments) (world l.fn.world))
    × (l.world.trace ≡ l.fn.world.trace)
