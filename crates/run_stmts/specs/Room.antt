-- The room of statements in the words of what a run reads, and the turns of the loops in them.
use Rattle.std.specs.Prelude.{ℕ, ◌+◌, ◌*◌, ◌<◌, Option, List, length}
use Rattle.sc_typed.specs.declared.expr.TExpr.{TExpr}
use Rattle.sc_typed.specs.declared.stmt.TStmt.{TStmt}
use Rattle.sc_typed.specs.declared.stmt.TForStart.{TForStart}
use Rattle.sc_world.specs.Tree.{Stm}
use Rattle.sc_world.specs.World.{Env}
use Rattle.run_world.specs.declared.pointers.Here.{Here}
use Rattle.run_world.specs.Seen.{env}
use Rattle.run_room.specs.Room.{room_if, stm_room, stms_room, start_room}
use Rattle.run_inits.specs.Seen.{most}
use Rattle.run_stmts.specs.Loops.{Loop, turn_room, turns_room}
use Rattle.run_stmts.specs.Trees.{exp_if_of, start_of, stm_of, stms_of}

-- the room of a statement in what a run reads
abbrev pub room_in : Env → Stm → ℕ
room_in env s = stm_room env.source.depth (length env.layout.locations) s

abbrev pub room_of_if : Here → Option TExpr → ℕ
room_of_if h e = room_if (exp_if_of h e)

abbrev pub room_of_start : Here → TForStart → ℕ
room_of_start h s = start_room (most h) (start_of h s)

abbrev pub room_of : Here → TStmt → ℕ
room_of h s = room_in (env h) (stm_of h s)

abbrev pub room_of_items : Here → List TStmt → ℕ
room_of_items h xs = stms_room (env h).source.depth (most h) (stms_of h xs)

-- one turn of a loop, and all of them
abbrev pub room_of_turn : Here → Loop → TStmt → ℕ
room_of_turn h l body = turn_room l (room_of h body)

abbrev pub room_of_turns : Here → Loop → TStmt → ℕ
room_of_turns h l body = turns_room l (env h).source.depth (room_of h body)

-- In the turn at hand the turns of the loops in a statement of that room are numbers of 32 bits.
abbrev pub Fits : (turn room : ℕ) → Type 0
Fits turn room = (turn + 1) * room < 4294967296
