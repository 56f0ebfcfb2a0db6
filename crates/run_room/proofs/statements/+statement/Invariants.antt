use Rattle.std.proofs.Common.{◌≡◌, ◌+◌, drop, length}
use Rattle.sc_gather.specs.Seen.{statements_of}
use Rattle.run_world.specs.Seen.{env}
use Rattle.run_room.specs.Room.{stms_room}
use Rattle.run_room.proofs.statements.+statement.Given as goal

abbrev pub invariant-statements-loop-x : goal.invariant-statements-loop-x
invariant-statements-loop-x l =
    l.all + stms_room (env l.here).source.depth (length (env l.here).layout.locations) (statements_of (env l.here).source.structs (drop l.x-index l.xs))
    ≡ stms_room (env l.fn.here).source.depth (length (env l.fn.here).layout.locations) (statements_of (env l.fn.here).source.structs l.fn.xs)
