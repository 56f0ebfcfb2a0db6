use Rattle.std.proofs.Common.{◌≡◌, drop, map}
use Rattle.sc_world.specs.Gather.{gather_sums}
use Rattle.sc_world.specs.Programs.{summary}
use Rattle.sc_gather.specs.Seen.{source_of, found}
use Rattle.sc_gather.proofs.summaries.verdicts.Given as goal

abbrev pub invariant-loop-x : goal.invariant-loop-x
invariant-loop-x l =
    gather_sums (source_of l.here) (map summary (drop l.x-index l.verdicts)) (found l.found)
    ≡ gather_sums (source_of l.fn.here) (map summary l.fn.verdicts) (found l.fn.found)
