use Rattle.std.proofs.Common.{take}
use Rattle.std.specs.List.{Contains}
use Rattle.sat_base.specs.declared.literal.Lit.{Lit}
use Rattle.rup_check.proofs.marks.Marks.has_all.Given as goal

abbrev pub invariant-loop-lit : goal.invariant-loop-lit
invariant-loop-lit l = (q : Lit) → Contains (take l.lit-index l.lits) q → Contains l.self.lits q
