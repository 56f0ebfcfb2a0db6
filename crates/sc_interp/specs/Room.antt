-- The room of a run: that of the body, and one event more for its closing brace.
use Rattle.std.specs.Prelude.{ℕ, ◌+◌, length}
use Rattle.sc_world.specs.Source.{Source}
use Rattle.sc_world.specs.Layout.{Layout}
use Rattle.run_world.specs.declared.pointers.Here.{Here}
use Rattle.run_world.specs.Seen.{env}
use Rattle.run_room.specs.Room.{stm_room}
use Rattle.run_stmts.specs.Room.{room_in}

-- the room of the body of the function at hand
abbrev pub body_room : Here → ℕ
body_room h = room_in (env h) (env h).source.body

unfoldable pub run_room : Source → Layout → ℕ
run_room s p = stm_room s.depth (length p.locations) s.body + 1
