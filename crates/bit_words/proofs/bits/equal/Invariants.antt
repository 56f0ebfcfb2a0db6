use Rattle.std.proofs.Common.{◌≡◌, ◌<◌, nat_eq, length, take}
use Rattle.bit_net.specs.Runs.{Grown, Always}
use Rattle.bit_words.specs.Number.{number}
use Rattle.bit_words.proofs.bits.equal.Given as goal

-- the first bits are equal
abbrev pub invariant-loop-i : goal.invariant-loop-i
invariant-loop-i l = record {
  grown : Grown l.fn.net l.net;
  below : l.all.at < length l.net;
  value : Always l.net (λ choice v. v l.all.at ≡ nat_eq (number v (take l.i l.fn.a)) (number v (take l.i l.fn.b)));
}
