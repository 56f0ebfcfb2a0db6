use Rattle.std.proofs.Common.{◌≡◌, drop}
use Rattle.sc_world.specs.Objects.{lay_locals}
use Rattle.sc_world.specs.Programs.{types_of}
use Rattle.layout_base.specs.Seen.{ground_of, layout_of}
use Rattle.places.proofs.entry.locals.Given as goal

abbrev pub invariant-loop-local : goal.invariant-loop-local
invariant-loop-local l =
    lay_locals l.k (types_of (drop l.local-index l.locals)) (ground_of l.ground) (layout_of l.laid)
    ≡ lay_locals 0 (types_of l.fn.locals) (ground_of l.fn.ground) (layout_of l.fn.laid)
