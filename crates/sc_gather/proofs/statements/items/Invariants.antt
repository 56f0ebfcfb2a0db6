use Rattle.std.proofs.Common.{◌≡◌, drop, map}
use Rattle.sc_world.specs.Gather.{gather_items}
use Rattle.sc_world.specs.View.{given}
use Rattle.sc_gather.specs.Seen.{source_of, round, found}
use Rattle.sc_gather.proofs.statements.items.Given as goal

abbrev pub invariant-loop-item : goal.invariant-loop-item
invariant-loop-item l =
    gather_items (source_of l.here) (map (given (source_of l.here).structs) (drop l.item-index l.items)) (round l.round) (found l.found)
    ≡ gather_items (source_of l.fn.here) (map (given (source_of l.fn.here).structs) l.fn.items) (round l.fn.round) (found l.fn.found)
