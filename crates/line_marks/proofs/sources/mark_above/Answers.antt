use Rattle.std.proofs.Common.{arith}
use Rattle.line_marks.proofs.Cuts.{mark_above_is, none_above}
use Rattle.line_marks.proofs.sources.mark_above.Goals as goal

pub returns-then-count-eq0-clause-mark : goal.returns-then-count-eq0-clause-mark
returns-then-count-eq0-clause-mark c =
    none_above c.args.line c.args.marks.now (λ k d low high. c.count_above-count.ensures.below k d (omega arith) high)

pub returns-clause-mark : goal.returns-clause-mark
returns-clause-mark c =
    mark_above_is c.args.line c.args.marks.now c.count_above-count.result c.index-marks-count.result (omega arith) c.count_above-count.ensures.within
    c.count_above-count.ensures.above c.count_above-count.ensures.below c.index-marks-count.is
