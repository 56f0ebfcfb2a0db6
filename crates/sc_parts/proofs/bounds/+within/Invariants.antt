-- All types are within the bound where those that are left are.
use Rattle.std.proofs.Common.{◌≡◌, map, drop}
use Rattle.std.specs.List.{list_all}
use Rattle.sc_parts.specs.Bounds.{within}
use Rattle.sc_parts.proofs.bounds.+within.Given as goal

abbrev pub invariant-all_within-loop-t : goal.invariant-all_within-loop-t
invariant-all_within-loop-t l = list_all (λ w. w l.most) (map within (drop l.t-index l.t-items)) ≡ list_all (λ w. w l.most) (map within l.types)
