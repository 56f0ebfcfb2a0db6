use Rattle.std.proofs.Common.{◌≡◌, ◌%◌, ◌/◌, ◌^◌, ◌≤◌, length, reverse}
use Rattle.bit_net.specs.Runs.{Always}
use Rattle.bit_words.specs.Number.{number, top}
use Rattle.bit_words.proofs.making.number_word.Given as goal

-- the low bits of the number, the lowest first, and what is left above them
abbrev pub invariant-loop-place : goal.invariant-loop-place
invariant-loop-place l = record {
  wide : length l.bits.items ≡ l._place;
  below : top l.bits.items ≤ length l.fn.net;
  value : Always l.fn.net (λ choice v. number v (reverse l.bits.items) ≡ l.fn.n % 2 ^ l._place);
  left : l.rest ≡ l.fn.n / 2 ^ l._place;
}
