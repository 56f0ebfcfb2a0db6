use Rattle.std.proofs.Common.{◌≡◌, drop}
use Rattle.sc_world.specs.Objects.{lay_params}
use Rattle.sc_world.specs.Programs.{types_of}
use Rattle.layout_base.specs.Seen.{ground_of, layout_of}
use Rattle.places.proofs.entry.params.Given as goal

abbrev pub invariant-loop-param : goal.invariant-loop-param
invariant-loop-param l =
    lay_params l.k (types_of (drop l.param-index l.params)) (ground_of l.ground) (layout_of l.laid)
    ≡ lay_params 0 (types_of l.fn.params) (ground_of l.fn.ground) (layout_of l.fn.laid)
