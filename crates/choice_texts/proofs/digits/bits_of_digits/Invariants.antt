-- The bits of the digits so far.
use Rattle.std.proofs.Common.{take}
use Rattle.choice_texts.specs.Digits.{HaveBits}
use Rattle.choice_texts.proofs.digits.bits_of_digits.Given as goal

abbrev pub invariant-loop-digit : goal.invariant-loop-digit
invariant-loop-digit l = HaveBits (take l.digit-index l.digits) l.bits.items
