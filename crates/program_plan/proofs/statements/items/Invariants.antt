use Rattle.std.proofs.Common.{◌≡◌, drop, map}
use Rattle.sc_world.specs.View.{given}
use Rattle.sc_gather.specs.Seen.{source_of}
use Rattle.program_plan.specs.Marks.{mark_items}
use Rattle.program_plan.proofs.statements.items.Given as goal

abbrev pub invariant-loop-item : goal.invariant-loop-item
invariant-loop-item l =
    mark_items (source_of l.here) (map (given (source_of l.here).structs) (drop l.item-index l.items)) l.marks
    ≡ mark_items (source_of l.fn.here) (map (given (source_of l.fn.here).structs) l.fn.items) l.fn.marks
