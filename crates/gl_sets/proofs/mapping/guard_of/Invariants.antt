use Rattle.std.proofs.Common.{◌≡◌, ◌<◌, length, take}
use Rattle.bit_net.specs.Runs.{Grown, Always}
use Rattle.gl_sets.specs.Guards.{guard, with_targets}
use Rattle.gl_sets.proofs.mapping.guard_of.Given as goal

-- the guard of the target among the first pairs
abbrev pub invariant-loop-i : goal.invariant-loop-i
invariant-loop-i l = record {
  grown : Grown l.fn.net l.net;
  below : l.some.at < length l.net;
  value : Always l.net (λ choice v. v l.some.at ≡ guard v (with_targets (take l.i l.fn.ps) (take l.i l.fn.targets)) l.fn.target);
}
