use Rattle.std.proofs.Common.{◌≡◌, ℕ, ◌<◌, true}
use Rattle.plan_core.specs.Order.{is_placed}
use Rattle.plan_core.proofs.order.Order.is_whole.Given as goal

-- the functions passed have their places
abbrev pub invariant-loop-placed : goal.invariant-loop-placed
invariant-loop-placed l = (f : ℕ) → f < l.placed-index → is_placed l.self.placed.items f ≡ true
