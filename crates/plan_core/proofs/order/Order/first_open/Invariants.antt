use Rattle.std.proofs.Common.{◌≡◌, ℕ, ◌≤◌, ◌<◌, true, get_or}
use Rattle.plan_core.specs.Order.{is_placed}
use Rattle.plan_core.proofs.order.Order.first_open.Given as goal

-- the functions passed have their places
abbrev pub invariant-loop-k : goal.invariant-loop-k
invariant-loop-k l = (k : ℕ) → l.fn.from ≤ k → k < l.k → is_placed l.self.placed.items (get_or l.functions k 0) ≡ true
