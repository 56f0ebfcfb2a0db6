use Rattle.std.proofs.Common.{◌≡◌, ◌<◌, not, nat_eq, length, take}
use Rattle.bit_net.specs.Runs.{Grown, Always}
use Rattle.bit_words.specs.Number.{number}
use Rattle.bit_words.proofs.bits.nonzero.Given as goal

-- the gate holds where the number of the first bits is not 0
abbrev pub invariant-loop-i : goal.invariant-loop-i
invariant-loop-i l = record {
  grown : Grown l.fn.net l.net;
  below : l.some.at < length l.net;
  value : Always l.net (λ choice v. v l.some.at ≡ not (nat_eq (number v (take l.i l.fn.a)) 0));
}
