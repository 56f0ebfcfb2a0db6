use Rattle.std.proofs.Common.{◌≡◌, ℕ, ◌+◌, ◌≤◌, ◌<◌, ◌⊎◌, length, drop}
use Rattle.std.specs.List.{Contains}
use Rattle.plan_core.specs.Order.{IsKept, IsSettled}
use Rattle.plan_core.proofs.order.Order.wake.Given as goal

-- each function that was settled is settled for the next turn, or is one of those that are left
abbrev pub invariant-loop-function : goal.invariant-loop-function
invariant-loop-function l =
    record {
      kept : IsKept l.plan.callees l.self;
      within : l.turn < length l.self.order.items;
      settled :
          (f : ℕ) → IsSettled l.plan.callees l.fn.self l.turn f
          → IsSettled l.plan.callees l.self (l.turn + 1) f ⊎ Contains (drop l.function-index l.function-items) f;
    }
