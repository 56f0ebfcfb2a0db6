use Rattle.std.proofs.Common.{take}
use Rattle.sat_trail.specs.Looks.{OthersFalse}
use Rattle.sat_trail.proofs.propagate.open_beside.Given as goal

abbrev pub invariant-loop-lit : goal.invariant-loop-lit
invariant-loop-lit l = OthersFalse (take l.k l.trail.steps) (take l.lit-index l.clause) l.other
