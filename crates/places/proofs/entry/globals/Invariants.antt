use Rattle.std.proofs.Common.{◌≡◌, drop, map}
use Rattle.sc_world.specs.Objects.{lay_globals}
use Rattle.sc_world.specs.View.{type}
use Rattle.layout_base.specs.Seen.{ground_of, layout_of}
use Rattle.places.proofs.entry.globals.Given as goal

abbrev pub invariant-loop-g : goal.invariant-loop-g
invariant-loop-g l =
    lay_globals l.k (map (λ g. type g.ctype) (drop l.g-index l.globals)) (ground_of l.ground) (layout_of l.laid)
    ≡ lay_globals 0 (map (λ g. type g.ctype) l.fn.globals) (ground_of l.fn.ground) (layout_of l.fn.laid)
