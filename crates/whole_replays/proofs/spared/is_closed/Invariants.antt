-- So far none that is needed is spared.
use Rattle.std.proofs.Common.{◌≡◌, ℕ, ◌<◌, true}
use Rattle.whole_replays.specs.Spared.{is_met}
use Rattle.whole_replays.proofs.spared.is_closed.Given as goal

abbrev pub invariant-loop-function : goal.invariant-loop-function
invariant-loop-function l = (f : ℕ) → f < l.function → is_met l.plan.callees l.spared f ≡ true
