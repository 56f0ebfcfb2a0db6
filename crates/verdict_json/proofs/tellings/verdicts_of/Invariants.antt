-- The verdicts so far.
use Rattle.std.proofs.Common.{◌≡◌, map, take}
use Rattle.std.specs.Arc.{arc_value}
use Rattle.verdict_json.specs.Tellings.{verdict_at}
use Rattle.verdict_json.proofs.tellings.verdicts_of.Given as goal

abbrev pub invariant-loop-function : goal.invariant-loop-function
invariant-loop-function l =
    l.copies.items ≡ map (verdict_at (map arc_value l.verdicts)) (take l.function-index l.functions)
