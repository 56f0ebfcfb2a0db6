use Rattle.std.proofs.Common.{◌≡◌, ◌*◌, ◌%◌, ◌^◌, ◌≤◌, length, take}
use Rattle.bit_net.specs.Runs.{Grown, Always}
use Rattle.bit_words.specs.Number.{number, top}
use Rattle.bit_words.proofs.multiplying.product.Given as goal

-- the product of the last i bits of the one and the first i bits of the other, in i bits
abbrev pub invariant-loop-i : goal.invariant-loop-i
invariant-loop-i l = record {
  grown : Grown l.fn.net l.net;
  wide : length l.product.items ≡ l.i;
  below : top l.product.items ≤ length l.net;
  value : Always l.net (λ choice v. number v l.product.items ≡ (number v l.fn.a * number v (take l.i l.fn.b)) % 2 ^ l.i);
}
