use Rattle.std.proofs.Common.{◌≡◌, drop}
use Rattle.sc_world.specs.Gather.{gather_writes}
use Rattle.sc_gather.specs.Seen.{source_of, found}
use Rattle.sc_gather.proofs.summaries.writes.Given as goal

abbrev pub invariant-loop-x : goal.invariant-loop-x
invariant-loop-x l =
    gather_writes (source_of l.here) (drop l.x-index l.writes) (found l.found)
    ≡ gather_writes (source_of l.fn.here) l.fn.writes (found l.fn.found)
