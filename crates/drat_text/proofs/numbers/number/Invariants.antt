-- What is left of the word, behind the number so far, says what the word is.
use Rattle.std.proofs.Common.{◌≡◌, ◌≤◌, drop}
use Rattle.std.specs.Char.{is_ascii_digit}
use Rattle.std.specs.List.{list_all}
use Rattle.drat_text.specs.Numbers.{decimal, greatest}
use Rattle.drat_text.proofs.numbers.number.Given as goal

abbrev pub invariant-loop-digit : goal.invariant-loop-digit
invariant-loop-digit l = record {
  small : l.value ≤ greatest;
  number : decimal 0 l.word ≡ decimal l.value (drop l.digit-index l.word);
  digits : list_all is_ascii_digit l.word ≡ list_all is_ascii_digit (drop l.digit-index l.word);
}
