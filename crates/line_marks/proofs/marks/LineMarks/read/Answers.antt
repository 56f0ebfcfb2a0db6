use Rattle.std.proofs.Common.{◌+◌, List, sym, subst}
use Rattle.line_marks.specs.declared.marks.Mark.{Mark}
use Rattle.line_marks.proofs.Gathered.{Ordered, line_more, ordered_more}
use Rattle.line_marks.proofs.marks.LineMarks.read.Goals as goal

pub lines-preserved : goal.lines-preserved
lines-preserved c =
    line_more c.args.bytes.now c.lines.rest.now c.in-Some.line.now c.in-Some.behind.now c.lines.at c.lines.commented c.comment_behind-commented.result
    c.lines.marks.items c.put_mark.new.marks.items c.lines.invariant c.in-Some.ensures.cut c.in-Some.ensures.shorter c.in_ok-put_mark.ensures c.comment_behind-commented.ensures

pub invariant_of-result : goal.invariant_of-result
invariant_of-result c =
    let P : List Mark → Type 0 = λ l. Ordered l (c.lines.at + 1) in
    (subst P (sym c.in_ok-put_mark-2.ensures) (ordered_more c.lines.marks.items c.lines.at c.lines.commented c.lines.rest.now c.lines.invariant.ordered)).order
