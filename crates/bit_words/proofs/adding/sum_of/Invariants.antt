use Rattle.std.proofs.Common.{◌≡◌, ◌+◌, ◌-◌, ◌*◌, ◌^◌, ◌<◌, ◌≤◌, length, drop, reverse}
use Rattle.bit_net.specs.Runs.{Grown, Always}
use Rattle.bit_words.specs.Number.{bit, number, top}
use Rattle.bit_words.proofs.adding.sum_of.Given as goal

-- the bits so far and the carry are the sum of the last i bits
abbrev pub invariant-loop-i : goal.invariant-loop-i
invariant-loop-i l = record {
  grown : Grown l.fn.net l.net;
  wide : length l.bits.items ≡ l.i;
  bits : top l.bits.items ≤ length l.net;
  carry : l.carry.at < length l.net;
  value : Always l.net (λ choice v. number v (reverse l.bits.items) + bit (v l.carry.at) * 2 ^ l.i
      ≡ number v (drop (length l.fn.a - l.i) l.fn.a) + number v (drop (length l.fn.b - l.i) l.fn.b) + bit (v l.fn.first.at));
}
