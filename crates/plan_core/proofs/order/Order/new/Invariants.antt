use Rattle.std.proofs.Common.{◌≡◌, [], replicate}
use Rattle.plan_core.proofs.order.Order.new.Given as goal

-- so many empty lists
abbrev pub invariant-loop-function : goal.invariant-loop-function
invariant-loop-function l = l.waiting.items ≡ replicate l._function []
