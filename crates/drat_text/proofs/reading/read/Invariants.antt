-- The lines that are left make of the text so far what all lines make of no text.
use Rattle.std.proofs.Common.{◌≡◌, ◌+◌, ◌≤◌, length}
use Rattle.drat_text.specs.Parts.{lines}
use Rattle.drat_text.specs.Expecting.{begun}
use Rattle.drat_text.specs.Reading.{with_lines}
use Rattle.drat_text.proofs.BelowLemmas.{IsWithin}
use Rattle.drat_text.proofs.reading.read.Given as goal

abbrev pub invariant-loop-line : goal.invariant-loop-line
invariant-loop-line l = record {
  spelled : with_lines 0 begun (lines l.bytes) ≡ with_lines l.passed l.reader l.lines;
  counted : l.passed + length l.lines ≤ length l.bytes + 1;
  within : IsWithin l.reader;
}

abbrev pub decreases-loop-line : goal.decreases-loop-line
decreases-loop-line l = length l.lines
