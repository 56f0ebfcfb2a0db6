-- The rows so far.
use Rattle.std.proofs.Common.{◌≡◌, ◌++◌, take}
use Rattle.std.specs.List.{flat_map}
use Rattle.report_text.specs.Rows.{item_line, row_line}
use Rattle.report_text.proofs.rows.put_item.Given as goal

abbrev pub invariant-loop-row : goal.invariant-loop-row
invariant-loop-row l =
    l.out.items
    ≡ l.fn.out.items
    ++ (item_line l.program l.params l.item.item l.item.rows ++ flat_map (row_line l.program.machine l.bits) (take l.row-index l.row-items))
