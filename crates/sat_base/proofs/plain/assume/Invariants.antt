use Rattle.std.proofs.Common.{take}
use Rattle.sat_base.proofs.Assuming.{Assumed}
use Rattle.sat_base.proofs.plain.assume.Given as goal

abbrev pub invariant-loop-lit : goal.invariant-loop-lit
invariant-loop-lit l = Assumed l.assumed (take l.lit-index l.assumed) l.fn.marks l.marks
