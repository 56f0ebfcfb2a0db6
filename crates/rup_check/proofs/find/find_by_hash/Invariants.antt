use Rattle.std.proofs.Common.{◌≡◌}
use Rattle.rup_check.proofs.find.find_by_hash.Given as goal

abbrev pub invariant-tries : goal.invariant-tries
invariant-tries l = l.marks.vars ≡ l.fn.marks.vars
