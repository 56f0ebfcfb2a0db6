-- The rows so far.
use Rattle.std.proofs.Common.{◌≡◌, length, take, sum_by}
use Rattle.sum_rows.specs.declared.row.ItemRows.{ItemRows}
use Rattle.report_text.proofs.checks.rows_of.Given as goal

abbrev pub invariant-loop-item : goal.invariant-loop-item
invariant-loop-item l = l.rows ≡ sum_by (λ (x : ItemRows). length x.rows) (take l.item-index l.item-items)
