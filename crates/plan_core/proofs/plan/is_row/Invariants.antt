use Rattle.std.proofs.Common.{ℕ, ◌+◌, ◌<◌, get_or}
use Rattle.plan_core.proofs.plan.is_row.Given as goal

-- the callees passed are functions of the plan, and ascend
abbrev pub invariant-loop-k : goal.invariant-loop-k
invariant-loop-k l =
    record {
      inside : (k : ℕ) → k < l.k → get_or l.row k 0 < l.count;
      rising : (k : ℕ) → k + 1 < l.k → get_or l.row k 0 < get_or l.row (k + 1) 0;
    }
