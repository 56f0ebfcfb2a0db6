-- The verdicts so far.
use Rattle.std.proofs.Common.{◌≡◌, map, take}
use Rattle.std.specs.Arc.{arc_value}
use Rattle.whole_replays.specs.Spared.{verdict_at}
use Rattle.whole_replays.proofs.needed.verdicts_of.Given as goal

abbrev pub invariant-loop-function : goal.invariant-loop-function
invariant-loop-function l = l.verdicts.items ≡ map (verdict_at (map arc_value l.all)) (take l.function-index l.functions)
