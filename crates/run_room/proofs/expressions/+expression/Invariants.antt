use Rattle.std.proofs.Common.{◌≡◌, ◌+◌, drop}
use Rattle.run_world.specs.Seen.{env}
use Rattle.run_exprs.specs.Room.{room_all}
use Rattle.run_exprs.specs.Seen.{arguments_of}
use Rattle.run_room.proofs.expressions.+expression.Given as goal

abbrev pub invariant-expressions-loop-e : goal.invariant-expressions-loop-e
invariant-expressions-loop-e l =
    l.all + room_all (arguments_of (env l.here).source.structs (drop l.e-index l.args)) ≡ room_all (arguments_of (env l.fn.here).source.structs l.fn.args)
