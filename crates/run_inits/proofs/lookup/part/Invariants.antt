use Rattle.std.proofs.Common.{◌≡◌, map, drop}
use Rattle.sc_world.specs.Layout as spec
use Rattle.layout_base.specs.Seen as laid
use Rattle.run_inits.proofs.lookup.part.Given as goal

abbrev pub invariant-loop-k : goal.invariant-loop-k
invariant-loop-k l =
    spec.first_where (λ x. spec.is_part_of l.at l.step x.origin) l.k (map laid.location_of (drop l.k l.locations))
    ≡ spec.first_where (λ x. spec.is_part_of l.at l.step x.origin) 0 (map laid.location_of l.locations)
