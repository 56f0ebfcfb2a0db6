use Rattle.std.proofs.Common.{◌≡◌, drop, map}
use Rattle.sc_world.specs.Gather.{gather_declarators}
use Rattle.sc_world.specs.View.{dec}
use Rattle.sc_gather.specs.Seen.{source_of, round, found}
use Rattle.sc_gather.proofs.statements.declarators.Given as goal

abbrev pub invariant-loop-d : goal.invariant-loop-d
invariant-loop-d l =
    gather_declarators (source_of l.here) (map (dec (source_of l.here).structs) (drop l.d-index l.declarators)) (round l.round) (found l.found)
    ≡ gather_declarators (source_of l.fn.here) (map (dec (source_of l.fn.here).structs) l.fn.declarators) (round l.fn.round) (found l.fn.found)
