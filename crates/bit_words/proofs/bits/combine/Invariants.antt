use Rattle.std.proofs.Common.{◌≡◌, ◌≤◌, length, take}
use Rattle.bit_net.specs.Runs.{Grown, Always}
use Rattle.bit_words.specs.Parts.{number_of}
use Rattle.bit_words.specs.Number.{number, top}
use Rattle.bit_words.proofs.bits.combine.Given as goal

-- the bits so far are those of the result
abbrev pub invariant-loop-i : goal.invariant-loop-i
invariant-loop-i l = record {
  grown : Grown l.fn.net l.net;
  wide : length l.bits.items ≡ l.i;
  bits : top l.bits.items ≤ length l.net;
  value : Always l.net (λ choice v. number v l.bits.items ≡ number_of l.fn.operator (number v (take l.i l.fn.a)) (number v (take l.i l.fn.b)));
}
