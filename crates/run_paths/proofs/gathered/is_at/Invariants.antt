use Rattle.std.proofs.Common.{◌≡◌, drop, map, nat_eq}
use Rattle.std.specs.List.{list_any}
use Rattle.run_paths.proofs.gathered.is_at.Given as goal

abbrev pub invariant-loop-f : goal.invariant-loop-f
invariant-loop-f l = list_any (nat_eq l.at) (map (λ f. f.at) (drop l.f-index l.found)) ≡ list_any (nat_eq l.fn.at) (map (λ f. f.at) l.fn.found)
