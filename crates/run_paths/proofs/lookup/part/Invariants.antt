use Rattle.std.proofs.Common.{◌≡◌, drop, map}
use Rattle.sc_world.specs.Layout.{first_where, is_part_of}
use Rattle.layout_base.specs.Seen.{location_of}
use Rattle.run_paths.proofs.lookup.part.Given as goal

abbrev pub invariant-loop-k : goal.invariant-loop-k
invariant-loop-k l =
    first_where (λ x. is_part_of l.at l.step x.origin) l.k (map location_of (drop l.k l.locations))
    ≡ first_where (λ x. is_part_of l.fn.at l.fn.step x.origin) 0 (map location_of l.fn.places.locations.items)
