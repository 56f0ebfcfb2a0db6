-- What was put, before the text of what is left, is the whole text.
use Rattle.std.proofs.Common.{◌≡◌, ◌++◌, drop}
use Rattle.drat_text.specs.Writing.{lits_text}
use Rattle.drat_text.proofs.writing.put_lits.Given as goal

abbrev pub invariant-loop-lit : goal.invariant-loop-lit
invariant-loop-lit l = l.out.items ++ lits_text (drop l.lit-index l.lits) ≡ l.fn.out.items ++ lits_text l.lits
