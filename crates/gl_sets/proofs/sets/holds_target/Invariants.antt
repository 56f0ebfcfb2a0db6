use Rattle.std.proofs.Common.{◌≡◌, false, take}
use Rattle.gl_sets.specs.Guards.{has_target}
use Rattle.gl_sets.proofs.sets.holds_target.Given as goal

-- no pair so far has the target
abbrev pub invariant-loop-pair : goal.invariant-loop-pair
invariant-loop-pair l = has_target (take l.pair-index l.pairs) l.target ≡ false
