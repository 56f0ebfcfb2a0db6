use Rattle.std.proofs.Common.{◌≡◌, drop}
use Rattle.sc_world.specs.Gather.{gather_all}
use Rattle.sc_gather.specs.Seen.{source_of, arguments_of, round, found}
use Rattle.sc_gather.proofs.expressions.+expression.Given as goal

abbrev pub invariant-arguments-loop-e : goal.invariant-arguments-loop-e
invariant-arguments-loop-e l =
    gather_all (source_of l.here) (arguments_of (source_of l.here).structs (drop l.e-index l.args)) (round l.round) (found l.found)
    ≡ gather_all (source_of l.fn.here) (arguments_of (source_of l.fn.here).structs l.fn.args) (round l.fn.round) (found l.fn.found)
