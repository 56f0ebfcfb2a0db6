-- No byte so far separates.
use Rattle.std.proofs.Common.{◌≡◌, false, take, All}
use Rattle.drat_text.specs.Parts.{separates}
use Rattle.drat_text.proofs.parts.cut.Given as goal

abbrev pub invariant-loop-i : goal.invariant-loop-i
invariant-loop-i l = All (λ b. separates l.separator b ≡ false) (take l.i l.bytes)
