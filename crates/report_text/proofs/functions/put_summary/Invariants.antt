-- The items so far, and behind them the cells so far.
use Rattle.std.proofs.Common.{◌≡◌, ◌++◌, take}
use Rattle.std.specs.List.{flat_map}
use Rattle.report_text.specs.Functions.{entry_line, write_line}
use Rattle.report_text.specs.Rows.{item_text}
use Rattle.report_text.proofs.functions.put_summary.Given as goal

abbrev pub invariant-loop-item : goal.invariant-loop-item
invariant-loop-item l =
    l.out.items
    ≡ l.fn.out.items
    ++ (entry_line l.program l.params ++ flat_map (item_text l.program l.params l.summary.bits) (take l.item-index l.item-items))

abbrev pub invariant-loop-write : goal.invariant-loop-write
invariant-loop-write l =
    l.out.items
    ≡ l.fn.out.items
    ++ (entry_line l.program l.params
    ++ (flat_map (item_text l.program l.params l.summary.bits) l.summary.items
    ++ flat_map (write_line l.program l.params) (take l.write-index l.write-items)))
