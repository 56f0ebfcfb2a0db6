use Rattle.std.proofs.Common.{◌≡◌, take}
use Rattle.rup_check.specs.Stored.{present, StoredBelow}
use Rattle.rup_check.proofs.check.add_clauses.Given as goal

abbrev pub invariant-loop-clause : goal.invariant-loop-clause
invariant-loop-clause l = record {
  same : l.marks.vars ≡ l.fn.marks.vars;
  low : StoredBelow l.fn.marks.vars l.store;
  there : present l.store ≡ take l.clause-index l.clauses;
}
