-- The rows so far.
use Rattle.std.proofs.Common.{◌≡◌, ◌+◌, length, take, sum_by}
use Rattle.sum_rows.specs.declared.row.ItemRows.{ItemRows}
use Rattle.check_counts.proofs.counts.with_rows.Given as goal

abbrev pub invariant-loop-item : goal.invariant-loop-item
invariant-loop-item l = l.more ≡ l.fn.rows + sum_by (λ (x : ItemRows). length x.rows) (take l.item-index l.items)
