use Rattle.std.proofs.Common.{◌≡◌, drop}
use Rattle.sc_world.specs.Source.{arguments_agree}
use Rattle.sc_world.specs.Programs.{types_of}
use Rattle.sc_gather.specs.Seen.{source_of, arguments_of}
use Rattle.sc_gather.proofs.context.Context.arguments_agree.Given as goal

abbrev pub invariant-loop-k : goal.invariant-loop-k
invariant-loop-k l =
    arguments_agree (arguments_of (source_of l.self).structs (drop l.k l.args)) (types_of (drop l.k l.params))
    ≡ arguments_agree (arguments_of (source_of l.self).structs l.args) (types_of l.params)
