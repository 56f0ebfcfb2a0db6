-- The verdicts passed are equal.
use Rattle.std.proofs.Common.{◌≡◌, length, map, take}
use Rattle.std.specs.Arc.{arc_value}
use Rattle.session_core.proofs.verdicts.same_verdicts.Given as goal

abbrev pub invariant-loop-k : goal.invariant-loop-k
invariant-loop-k l = (length l.one ≡ length l.other) × (take l.k (map arc_value l.one) ≡ take l.k (map arc_value l.other))
