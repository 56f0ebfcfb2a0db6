use Rattle.std.proofs.Common.{◌≡◌, ◌-◌, ◌<◌, ◌≤◌, if◌then◌else◌, length, drop}
use Rattle.bit_net.specs.Runs.{Grown, Always}
use Rattle.bit_words.specs.Number.{number, top}
use Rattle.bit_words.specs.Parts.{moved}
use Rattle.bit_words.proofs.shifting.shift.Given as goal

-- the word is shifted by the number of the last j bits of the count
abbrev pub invariant-loop-j : goal.invariant-loop-j
invariant-loop-j l = record {
  grown : Grown l.fn.net l.net;
  wide : length l.shifted.word.items ≡ length l.fn.a;
  below : top l.shifted.word.items ≤ length l.net;
  beyond : l.shifted.beyond.at < length l.net;
  value : Always l.net (λ choice v. (if v l.shifted.beyond.at then 0 else number v l.shifted.word.items)
      ≡ moved l.fn.direction (length l.fn.a) (number v l.fn.a) (number v (drop (length l.fn.count - l.j) l.fn.count)));
}
