use Rattle.std.proofs.Common.{◌≡◌, drop, map}
use Rattle.sc_world.specs.Known.{set_outs}
use Rattle.run_world.specs.Seen.{env, world}
use Rattle.run_paths.specs.Seen.{outed}
use Rattle.run_known.proofs.effects.set_outs.Given as goal

abbrev pub invariant-loop-out : goal.invariant-loop-out
invariant-loop-out l =
    (set_outs (env l.here) (map outed (drop l.out-index l.outs)) (world l.world)
    ≡ set_outs (env l.fn.here) (map outed l.fn.outs) (world l.fn.world))
    × (l.world.trace ≡ l.fn.world.trace)
