use Rattle.std.proofs.Common.{◌≡◌, drop, map}
use Rattle.std.specs.List.{list_all}
use Rattle.sc_world.specs.Known.{out_stands}
use Rattle.run_world.specs.Seen.{env}
use Rattle.run_paths.specs.Seen.{outed}
use Rattle.run_known.proofs.needs.outs_stand.Given as goal

abbrev pub invariant-loop-out : goal.invariant-loop-out
invariant-loop-out l =
    list_all (out_stands (env l.here) l.given l.gives) (map outed (drop l.out-index l.outs))
    ≡ list_all (out_stands (env l.fn.here) l.fn.given l.fn.gives) (map outed l.fn.outs)
