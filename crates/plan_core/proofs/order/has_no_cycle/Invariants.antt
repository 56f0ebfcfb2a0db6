use Rattle.std.proofs.Common.{◌≡◌, ℕ, ◌<◌, length}
use Rattle.plan_core.specs.Order.{IsKept, IsSettled}
use Rattle.plan_core.proofs.order.has_no_cycle.Given as goal

-- each function passed is settled
abbrev pub invariant-loop-function : goal.invariant-loop-function
invariant-loop-function l =
    record {
      kept : IsKept l.plan.callees l.order;
      settled : (f : ℕ) → f < l.function → IsSettled l.plan.callees l.order 0 f;
    }

-- each function is settled for this turn
abbrev pub invariant-loop-turn : goal.invariant-loop-turn
invariant-loop-turn l =
    record {
      kept : IsKept l.plan.callees l.order;
      settled : (f : ℕ) → f < length l.plan.callees → IsSettled l.plan.callees l.order l.turn f;
    }
