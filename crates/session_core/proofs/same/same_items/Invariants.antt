-- The items passed are equal.
use Rattle.std.proofs.Common.{◌≡◌, length, take}
use Rattle.session_core.proofs.same.same_items.Given as goal

abbrev pub invariant-loop-k : goal.invariant-loop-k
invariant-loop-k g l = (length l.one ≡ length l.other) × (take l.k l.one ≡ take l.k l.other)
