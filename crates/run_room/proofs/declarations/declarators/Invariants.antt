use Rattle.std.proofs.Common.{◌≡◌, ◌+◌, drop, map, length}
use Rattle.sc_world.specs.View.{dec}
use Rattle.run_world.specs.Seen.{env}
use Rattle.run_room.specs.Room.{decs_room}
use Rattle.run_room.proofs.declarations.declarators.Given as goal

abbrev pub invariant-loop-d : goal.invariant-loop-d
invariant-loop-d l =
    l.all + decs_room (length (env l.here).layout.locations) (map (dec (env l.here).source.structs) (drop l.d-index l.declarators))
    ≡ decs_room (length (env l.fn.here).layout.locations) (map (dec (env l.fn.here).source.structs) l.fn.declarators)
