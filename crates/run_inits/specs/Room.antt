-- The room beside the store that a run has, what trees need of it, and what is used.
use Rattle.std.specs.Prelude.{ℕ, ◌+◌, ◌≤◌, Option, List, length, vec_capacity}
use Rattle.sc_typed.specs.declared.expr.TExpr.{TExpr}
use Rattle.sc_typed.specs.declared.stmt.TInit.{TInit}
use Rattle.sc_typed.specs.declared.stmt.TInitItem.{TInitItem}
use Rattle.sc_typed.specs.declared.stmt.TDeclarator.{TDeclarator}
use Rattle.run_world.specs.declared.pointers.Here.{Here}
use Rattle.run_world.specs.declared.world.World.{World}
use Rattle.run_exprs.specs.Room.{room}
use Rattle.run_exprs.specs.declared.room.Room.{Room}
use Rattle.run_room.specs.Room.{given_room, givens_room, init_room, decs_room}
use Rattle.run_inits.specs.Seen.{exp_of, given_of, givens_of, init_of, dec_of, decs_of, most}

abbrev pub room_of_exp : Here → TExpr → ℕ
room_of_exp h e = room (exp_of h e)

abbrev pub room_of_given : Here → TInitItem → ℕ
room_of_given h x = given_room (most h) (given_of h x)

abbrev pub room_of_givens : Here → List TInitItem → ℕ
room_of_givens h xs = givens_room (most h) (givens_of h xs)

abbrev pub room_of_init : Here → Option TInit → ℕ
room_of_init h x = init_room (most h) (init_of h x)

abbrev pub room_of_dec : Here → TDeclarator → ℕ
room_of_dec h d = init_room (most h) (dec_of h d).init

abbrev pub room_of_decs : Here → List TDeclarator → ℕ
room_of_decs h ds = decs_room (most h) (decs_of h ds)

-- Room for so much: in the trace, for arguments of calls that wait, and for the cells of an object.
abbrev pub HasRoom : Here → World → Room → ℕ → Type 0
HasRoom h w k n =
    (length w.trace.items + n ≤ vec_capacity w.trace)
    × ((length k.arguments.items + n ≤ vec_capacity k.arguments)
    × (most h ≤ vec_capacity k.cells))

-- At most so much of the trace is used, and what is reserved stays.
abbrev pub Uses : (w v : World) → (k m : Room) → ℕ → Type 0
Uses w v k m n =
    (length v.trace.items ≤ length w.trace.items + n)
    × ((vec_capacity w.trace ≤ vec_capacity v.trace)
    × ((vec_capacity k.arguments ≤ vec_capacity m.arguments)
    × (vec_capacity k.cells ≤ vec_capacity m.cells)))
