use Rattle.std.proofs.Common.{◌≡◌, take}
use Rattle.rup_check.specs.Checked.{Reaches}
use Rattle.rup_check.specs.Stored.{present, StoredBelow}
use Rattle.rup_check.proofs.check.check_proof.Given as goal

abbrev pub invariant-loop-k : goal.invariant-loop-k
invariant-loop-k l = record {
  same : l.marks.vars ≡ l.vars;
  low : StoredBelow l.vars l.store;
  reached : Reaches l.clauses (take l.k l.steps.items) (present l.store);
}
