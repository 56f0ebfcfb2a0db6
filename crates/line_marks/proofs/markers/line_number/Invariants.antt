-- With the digits that are left, the number is whole.
use Rattle.std.proofs.Common.{◌≡◌, ◌<◌, drop}
use Rattle.line_marks.specs.Markers.{number_from}
use Rattle.line_marks.proofs.markers.line_number.Given as goal

abbrev pub invariant-loop-digit : goal.invariant-loop-digit
invariant-loop-digit l =
    (number_from l.number (drop l.digit-index l.digits) ≡ number_from 0 l.digits) × (l.number < 4294967296)
