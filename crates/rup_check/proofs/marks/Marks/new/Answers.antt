-- No bit is set.
use Rattle.rup_check.proofs.MarkingLemmas.{marks_none}
use Rattle.rup_check.proofs.marks.Marks.new.Goals as goal

pub invariant_of-result : goal.invariant_of-result
invariant_of-result c =
    marks_none c.args.vars c.in_ok-count.count c.in_ok-bits.bits.items c.new.result.items (c.in_ok-bits.ensures.items_if_clones_equal (λ y h. h))
    c.in_ok-count.ensures c.new.ensures.items
