-- The digits that are left, behind the number so far, write what all write.
use Rattle.std.proofs.Common.{◌≡◌, ◌<◌, ◌^◌, drop}
use Rattle.sc_tree.specs.Numbers.{number_from}
use Rattle.sc_lexer.proofs.numbers.number.Given as goal

abbrev pub invariant-loop-digit : goal.invariant-loop-digit
invariant-loop-digit l = (number_from l.base l.number (drop l.digit-index l.digits) ≡ number_from l.base 0 l.digits) × (l.number < 2 ^ 64)
