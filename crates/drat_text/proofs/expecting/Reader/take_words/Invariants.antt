-- The words that are left make of the text so far what all words make of the text at first.
use Rattle.std.proofs.Common.{◌≡◌, length}
use Rattle.std.specs.List.{filter}
use Rattle.drat_text.specs.Parts.{has_bytes, words}
use Rattle.drat_text.specs.Expecting.{with_words}
use Rattle.drat_text.proofs.expecting.Reader.take_words.Given as goal

abbrev pub invariant-loop-word : goal.invariant-loop-word
invariant-loop-word l = with_words l.fn.self (words l.line) ≡ with_words l.self (filter has_bytes l.words)

abbrev pub decreases-loop-word : goal.decreases-loop-word
decreases-loop-word l = length (filter has_bytes l.words)
