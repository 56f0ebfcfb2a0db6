-- What stands below `low` is above the line, and what stands from `high` on is not.
use Rattle.std.proofs.Common.{◌≤◌, ◌<◌, ◌-◌, length}
use Rattle.std.specs.List.{AllWithin}
use Rattle.line_marks.specs.declared.marks.Mark.{Mark}
use Rattle.line_marks.proofs.sources.count_above.Given as goal

abbrev pub invariant-loop-low : goal.invariant-loop-low
invariant-loop-low l =
    (l.low ≤ l.high) × (l.high ≤ length l.marks) × AllWithin (λ (m : Mark). m.at < l.line) l.marks 0 l.low
    × AllWithin (λ (m : Mark). l.line ≤ m.at) l.marks l.high (length l.marks)

abbrev pub decreases-loop-low : goal.decreases-loop-low
decreases-loop-low l = l.high - l.low
