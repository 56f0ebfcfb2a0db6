-- Loops: what one turn does, and all turns that are left. The three kinds of loops are one here.
use Rattle.std.specs.Prelude.{ℕ, zero, suc, ◌+◌, Bool, true, Option, Some, None, if◌then◌else◌}
use Rattle.sc_base.specs.declared.pos.Pos.{Pos}
use Rattle.sum_rows.specs.declared.report.What.TheVariants as what
use Rattle.sc_world.specs.declared.run.Reason.TheVariants as reason
use Rattle.sc_world.specs.Tree as tree
use Rattle.sc_world.specs.Tree.{Exp, Stm, NoStart}
use Rattle.sc_world.specs.World.{Run, Env, ◌>>=◌, done, aside}
use Rattle.sc_world.specs.Exec.{Flow, Next, Breaks, Continues, GoesTo, Returns, exec, in_turn}
use Rattle.sc_world.specs.Exec.{condition, condition_if, with_step}
use Rattle.run_exprs.specs.Room.{room}
use Rattle.run_room.specs.Room.{room_if, loop_room}

-- what is tested, and the step of a `for`
pub data Loop : Type 0 where
  While : (test : Exp) → Loop
  For : (test step : Option Exp) → Loop
  Do : (test : Exp) → Loop

-- the loop as a statement, with nothing in the first place of a `for`
abbrev pub loop_stm : Loop → Pos → (body : Stm) → Stm
loop_stm (While e) p s = tree.While p e s
loop_stm (For c n) p s = tree.For p NoStart c n s
loop_stm (Do e) p s = tree.Do p s e

-- where the run goes on behind the loop, if its body ends it
abbrev pub ended_by : Flow → Option Flow
ended_by Next = None
ended_by Continues = None
ended_by Breaks = Some Next
ended_by (GoesTo n) = Some (GoesTo n)
ended_by (Returns v) = Some (Returns v)

-- the test before the body
abbrev pub test_first : Loop → Pos → Env → (turn : ℕ) → Run Bool
test_first (While e) p env t = condition p what.Loop e (in_turn env (env.source.depth + 1) t)
test_first (For c n) p env t = condition_if p c (in_turn env (env.source.depth + 1) t)
test_first (Do e) p env t = done true

-- the test behind the body, which a body that ends the loop does not come to
abbrev pub tested_behind : Run Bool → Option Flow → Run (Option Flow)
tested_behind test None = test >>= λ holds. done (if holds then None else Some Next)
tested_behind test (Some f) = done (Some f)

-- what follows the body, in its turn
abbrev pub behind_body : Loop → Pos → Env → Flow → Run (Option Flow)
behind_body (While e) p env f = done (ended_by f)
behind_body (For c n) p env f = with_step n env f >>= λ g. done (ended_by g)
behind_body (Do e) p env f = tested_behind (condition p what.Loop e env) (ended_by f)

-- one turn: where the run goes on, if the loop ends with it
abbrev pub loop_turn : Loop → Pos → Env → Stm → (turn : ℕ) → Run (Option Flow)
loop_turn l p env s t = do
  holds ← test_first l p env t
  if holds
      then (exec s (in_turn env env.source.depth t) >>= λ f. behind_body l p (in_turn env env.source.depth t) f)
      else done (Some Next)

-- behind the last turn
abbrev pub aside_if : Bool → Run Flow
aside_if holds = if holds then aside reason.Depth else done Next

abbrev pub last_test : Loop → Pos → Env → (turn : ℕ) → Run Flow
last_test (While e) p env t = condition p what.Loop e (in_turn env (env.source.depth + 1) t) >>= λ holds. aside_if holds
last_test (For c n) p env t = condition_if p c (in_turn env (env.source.depth + 1) t) >>= λ holds. aside_if holds
last_test (Do e) p env t = aside reason.Depth

abbrev pub more_or : Run Flow → Option Flow → Run Flow
more_or more None = more
more_or more (Some f) = done f

-- the turns that are left
unfoldable pub loops : Loop → Pos → Env → Stm → (left turn : ℕ) → Run Flow
loops l p env s zero t = last_test l p env t
loops l p env s (suc more) t = loop_turn l p env s t >>= λ f. more_or (loops l p env s more (t + 1)) f

-- The room of a loop: of what it does before its body in a turn, and behind it.

abbrev pub first_room : Loop → ℕ
first_room (While e) = room e + 1
first_room (For c n) = room_if c + 1
first_room (Do e) = 0

abbrev pub behind_room : Loop → ℕ
behind_room (While e) = 0
behind_room (For c n) = room_if n
behind_room (Do e) = room e + 1

-- one turn of a loop whose body needs so much, and all of them
abbrev pub turn_room : Loop → (body : ℕ) → ℕ
turn_room l b = first_room l + (b + behind_room l)

unfoldable pub turns_room : Loop → (depth body : ℕ) → ℕ
turns_room (While e) d b = loop_room d (room e + 1) b
turns_room (For c n) d b = loop_room d (room_if c + 1) (b + room_if n)
turns_room (Do e) d b = loop_room d (room e + 1) b
