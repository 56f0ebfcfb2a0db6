use Rattle.std.proofs.Common.{◌≡◌, ◌+◌, ◌≤◌, length}
use Rattle.bit_words.specs.Number.{top}
use Rattle.gate_tests.proofs.words.input_word.Given as goal

-- the inputs before k are in the word, and each gate is one of the net
abbrev pub invariant-loop-k : goal.invariant-loop-k
invariant-loop-k l = record {
  wide : l.from + length l.bits.items ≡ l.k;
  below : top l.bits.items ≤ length l.net;
}
