use Rattle.std.proofs.Common.{◌≡◌, ℕ, ◌<◌, false}
use Rattle.plan_core.specs.Core.{may_claim}
use Rattle.plan_core.proofs.state.CoreState.claimable.Given as goal

-- no function before this one may be claimed
abbrev pub invariant-loop-function : goal.invariant-loop-function
invariant-loop-function l = (f : ℕ) → f < l.function → may_claim l.plan.callees l.self f ≡ false
