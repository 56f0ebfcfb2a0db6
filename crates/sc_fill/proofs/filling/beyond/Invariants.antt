-- The values that are left, behind those so far, leave what all leave.
use Rattle.std.proofs.Common.{◌≡◌, length}
use Rattle.sc_fill.specs.Filling.{beyond}
use Rattle.sc_fill.proofs.filling.beyond.Given as goal

abbrev pub invariant-loop-e : goal.invariant-loop-e
invariant-loop-e l = beyond l.left l.items l.walk ≡ beyond l.initial.left l.initial.items l.initial.walk

abbrev pub decreases-loop-e : goal.decreases-loop-e
decreases-loop-e l = length l.left
