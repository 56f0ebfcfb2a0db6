use Rattle.std.proofs.Common.{take}
use Rattle.rup_check.specs.Looking.{AreOpen}
use Rattle.rup_check.proofs.look.open_lits.Given as goal

abbrev pub invariant-loop-lit : goal.invariant-loop-lit
invariant-loop-lit l = AreOpen l.marks.lits (take l.lit-index l.clause) l.found
