use Rattle.std.proofs.Common.{take}
use Rattle.sat_base.proofs.Scanning.{Scanned}
use Rattle.sat_base.proofs.propagate.look_at.Given as goal

abbrev pub invariant-loop-lit : goal.invariant-loop-lit
invariant-loop-lit l = Scanned (take l.lit-index l.clause) l.marks l.unset l.several
