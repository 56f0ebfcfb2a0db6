-- With the lines that are left, the marks are whole. Those so far stand above the line at hand, in their order.
use Rattle.std.proofs.Common.{length}
use Rattle.line_marks.proofs.Gathered.{SoFar}
use Rattle.line_marks.proofs.marks.LineMarks.read.Given as goal

abbrev pub invariant-lines : goal.invariant-lines
invariant-lines l = SoFar l.bytes l.rest l.at l.commented l.marks.items

abbrev pub decreases-lines : goal.decreases-lines
decreases-lines l = length l.rest
