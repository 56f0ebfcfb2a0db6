use Rattle.std.proofs.Common.{◌≡◌, drop, map}
use Rattle.sc_world.specs.Known.{meet_twice}
use Rattle.run_paths.proofs.gathered.meets.Given as goal

abbrev pub invariant-loop-k : goal.invariant-loop-k
invariant-loop-k l = meet_twice (map (λ f. f.at) (drop l.k l.found)) ≡ meet_twice (map (λ f. f.at) l.fn.found)
