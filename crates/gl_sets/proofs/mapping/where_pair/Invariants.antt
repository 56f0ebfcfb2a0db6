use Rattle.std.proofs.Common.{◌≡◌, ◌<◌, length, take}
use Rattle.bit_net.specs.Runs.{Grown, Always}
use Rattle.gl_sets.specs.Guards.{tested}
use Rattle.gl_sets.proofs.mapping.where_pair.Given as goal

-- whether some of the first pairs has a guard that holds with its test
abbrev pub invariant-loop-i : goal.invariant-loop-i
invariant-loop-i l = record {
  grown : Grown l.fn.net l.net;
  below : l.some.at < length l.net;
  value : Always l.net (λ choice v. v l.some.at ≡ tested v (take l.i l.fn.ps) (take l.i l.fn.tests));
}
