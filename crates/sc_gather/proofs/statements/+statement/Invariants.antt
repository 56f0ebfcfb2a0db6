use Rattle.std.proofs.Common.{◌≡◌, drop}
use Rattle.sc_world.specs.Gather.{gather_stms}
use Rattle.sc_gather.specs.Seen.{source_of, statements_of, round, found}
use Rattle.sc_gather.proofs.statements.+statement.Given as goal

abbrev pub invariant-statements-loop-x : goal.invariant-statements-loop-x
invariant-statements-loop-x l =
    gather_stms (source_of l.here) (statements_of (source_of l.here).structs (drop l.x-index l.xs)) (round l.round) (found l.found)
    ≡ gather_stms (source_of l.fn.here) (statements_of (source_of l.fn.here).structs l.fn.xs) (round l.fn.round) (found l.fn.found)
