use Rattle.rup_check.proofs.MarkingLemmas.{IsClearing}
use Rattle.rup_check.proofs.marks.clear_bits.Given as goal

abbrev pub invariant-loop-lit : goal.invariant-loop-lit
invariant-loop-lit l = IsClearing l.vars l.bits.items l.lits l.lit-index
