use Rattle.std.proofs.Common.{take}
use Rattle.rup_check.proofs.MarkingLemmas.{IsSetting}
use Rattle.rup_check.proofs.marks.Marks.set_to.Given as goal

abbrev pub invariant-loop-lit : goal.invariant-loop-lit
invariant-loop-lit l = IsSetting (λ q. q) l.self l.fn.self.vars (take l.lit-index l.lits)
