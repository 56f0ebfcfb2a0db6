use Rattle.std.proofs.Common.{◌≡◌, ◌+◌, drop, map, length}
use Rattle.sc_world.specs.View.{given}
use Rattle.run_world.specs.Seen.{env}
use Rattle.run_room.specs.Room.{givens_room}
use Rattle.run_room.proofs.declarations.items.Given as goal

abbrev pub invariant-loop-item : goal.invariant-loop-item
invariant-loop-item l =
    l.all + givens_room (length (env l.here).layout.locations) (map (given (env l.here).source.structs) (drop l.item-index l.items))
    ≡ givens_room (length (env l.fn.here).layout.locations) (map (given (env l.fn.here).source.structs) l.fn.items)
