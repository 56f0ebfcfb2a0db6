use Rattle.std.proofs.Common.{◌≡◌, drop}
use Rattle.sc_world.specs.Source.{place_in}
use Rattle.sc_gather.proofs.context.place_in.Given as goal

abbrev pub invariant-loop-k : goal.invariant-loop-k
invariant-loop-k l = place_in l.k l.n (drop l.k l.kept) ≡ place_in 0 l.n l.kept
