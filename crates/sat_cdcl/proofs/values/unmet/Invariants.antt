use Rattle.std.proofs.Common.{◌≡◌, true, take}
use Rattle.sat_base.specs.Logic.{all_true, at}
use Rattle.sat_cdcl.proofs.values.unmet.Given as goal

abbrev pub invariant-loop-i : goal.invariant-loop-i
invariant-loop-i l = all_true (at l.values) (take l.i l.clauses.given) ≡ true
