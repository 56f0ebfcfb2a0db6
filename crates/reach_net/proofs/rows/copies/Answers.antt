use Rattle.std.proofs.Common.{◌∙◌}
use Rattle.reach_net.proofs.RowLemmas.{copied_row}
use Rattle.reach_net.proofs.rows.copies.Goals as goal

pub loop-row-preserved : goal.loop-row-preserved
loop-row-preserved c = copied_row _ _ _ _ c.loop-row.row-index c.row-item.result c.row-item.is c.loop-row-test.true c.in_ok-push.ensures.items (c.in_ok-same.ensures.items ∙ c.deref.ensures.value) c.loop-row.invariant
