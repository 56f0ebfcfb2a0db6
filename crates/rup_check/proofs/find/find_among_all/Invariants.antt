use Rattle.std.proofs.Common.{◌≡◌, ◌<◌, ℕ}
use Rattle.rup_check.specs.Stored.{IsFound}
use Rattle.rup_check.proofs.find.find_among_all.Given as goal

abbrev pub invariant-loop-id : goal.invariant-loop-id
invariant-loop-id l = record {
  same : l.marks.vars ≡ l.fn.marks.vars;
  none : (j : ℕ) → j < l.id → IsFound l.store l.clause j → ⊥;
}
