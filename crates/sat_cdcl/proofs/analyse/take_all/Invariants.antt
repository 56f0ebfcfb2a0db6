use Rattle.std.proofs.Common.{take}
use Rattle.sat_cdcl.specs.Resolvents.{TakesAll}
use Rattle.sat_cdcl.proofs.analyse.take_all.Given as goal

abbrev pub invariant-loop-lit : goal.invariant-loop-lit
invariant-loop-lit l = TakesAll l.fn.resolvent l.resolvent (take l.lit-index l.clause) l.but
