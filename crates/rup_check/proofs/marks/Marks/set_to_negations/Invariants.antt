use Rattle.std.proofs.Common.{take}
use Rattle.sat_base.specs.Logic.{negation}
use Rattle.rup_check.proofs.MarkingLemmas.{IsSetting}
use Rattle.rup_check.proofs.marks.Marks.set_to_negations.Given as goal

abbrev pub invariant-loop-lit : goal.invariant-loop-lit
invariant-loop-lit l = IsSetting negation l.self l.fn.self.vars (take l.lit-index l.lits)
