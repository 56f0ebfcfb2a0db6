use Rattle.std.proofs.Common.{◌≡◌, length}
use Rattle.ground_tests.proofs.plans.is_published_from_its_end.Given as goal

-- the state has a mark for each function
abbrev pub invariant-loop-turn : goal.invariant-loop-turn
invariant-loop-turn l = length l.state ≡ 64
