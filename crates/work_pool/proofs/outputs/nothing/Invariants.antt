use Rattle.std.proofs.Common.{◌≡◌, replicate, None}
use Rattle.work_pool.proofs.outputs.nothing.Given as goal

-- so many places, and nothing in them
abbrev pub invariant-loop-turn : goal.invariant-loop-turn
invariant-loop-turn g l = l.made.items ≡ replicate l._turn None
