use Rattle.std.proofs.Common.{◌≡◌, ◌-◌, ◌<◌, nat_lt, length, drop}
use Rattle.bit_net.specs.Runs.{Grown, Always}
use Rattle.bit_words.specs.Number.{number}
use Rattle.bit_words.proofs.bits.less.Given as goal

-- the number of the last bits is less
abbrev pub invariant-loop-i : goal.invariant-loop-i
invariant-loop-i l = record {
  grown : Grown l.fn.net l.net;
  below : l.less.at < length l.net;
  value : Always l.net (λ choice v. v l.less.at ≡ nat_lt (number v (drop (length l.fn.a - l.i) l.fn.a)) (number v (drop (length l.fn.b - l.i) l.fn.b)));
}
