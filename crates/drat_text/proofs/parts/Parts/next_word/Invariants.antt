-- The parts that were taken off have no bytes.
use Rattle.std.proofs.Common.{◌≡◌, length}
use Rattle.std.specs.List.{filter}
use Rattle.drat_text.specs.Parts.{has_bytes}
use Rattle.drat_text.proofs.parts.Parts.next_word.Given as goal

abbrev pub invariant-loop-part : goal.invariant-loop-part
invariant-loop-part l = filter has_bytes l.fn.self ≡ filter has_bytes l.self

abbrev pub decreases-loop-part : goal.decreases-loop-part
decreases-loop-part l = length l.self
