use Rattle.std.proofs.Common.{◌≡◌, take}
use Rattle.sat_base.specs.Logic.{at}
use Rattle.query.specs.Values.{values_of}
use Rattle.query.proofs.fixing.values_found.Given as goal

-- the values of the bits before this one
abbrev pub invariant-loop-bit : goal.invariant-loop-bit
invariant-loop-bit g l = l.values.items ≡ values_of (at (g.S.Solver.found l.s)) (take l.bit-index l.bits)
