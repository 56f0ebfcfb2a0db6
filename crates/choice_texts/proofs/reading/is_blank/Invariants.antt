-- No bit is set so far.
use Rattle.std.proofs.Common.{◌≡◌, not, drop}
use Rattle.std.specs.List.{list_all}
use Rattle.choice_texts.proofs.reading.is_blank.Given as goal

abbrev pub invariant-loop-at : goal.invariant-loop-at
invariant-loop-at l = list_all not (drop l.at l.bits) ≡ list_all not (drop l.from l.bits)
