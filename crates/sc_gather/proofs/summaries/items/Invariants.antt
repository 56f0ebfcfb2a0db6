use Rattle.std.proofs.Common.{◌≡◌, drop}
use Rattle.sc_world.specs.Gather.{gather_summary_items}
use Rattle.sc_gather.specs.Seen.{source_of, found}
use Rattle.sc_gather.proofs.summaries.items.Given as goal

abbrev pub invariant-loop-x : goal.invariant-loop-x
invariant-loop-x l =
    gather_summary_items (source_of l.here) (drop l.x-index l.items) (found l.found)
    ≡ gather_summary_items (source_of l.fn.here) l.fn.items (found l.fn.found)
