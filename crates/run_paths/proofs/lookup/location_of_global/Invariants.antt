use Rattle.std.proofs.Common.{◌≡◌, drop, map}
use Rattle.sc_world.specs.declared.run.Origin.TheVariants as origin
use Rattle.sc_world.specs.Layout.{first_where, same_origin}
use Rattle.layout_base.specs.Seen.{location_of}
use Rattle.run_paths.proofs.lookup.location_of_global.Given as goal

abbrev pub invariant-loop-k : goal.invariant-loop-k
invariant-loop-k l =
    first_where (λ x. same_origin (origin.Global l.global) x.origin) l.k (map location_of (drop l.k l.locations))
    ≡ first_where (λ x. same_origin (origin.Global l.fn.global) x.origin) 0 (map location_of l.fn.places.locations.items)
