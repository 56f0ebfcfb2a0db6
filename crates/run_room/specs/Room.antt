-- How much room a statement needs: for its events, for arguments of calls that wait, and for the values of braces. One
-- number counts all of these, and bounds the turns of the loops in it too. `depth` says how often a loop may turn, and
-- `most` how many cells an object has at most.
use Rattle.std.specs.Prelude.{ℕ, ◌+◌, ◌*◌, Option, Some, None, List, [], ◌∷◌, if◌then◌else◌}
use Rattle.sc_world.specs.Tree.{Exp, type_of, Given, Init, NoInit, One, Braces, Dec, Start, NoStart, Begin, Declare, Stm, Block, Decl, Evaluate, If, IfElse, While, Do, For, Switch, Case, Default, Goto, Break, Continue, Return, Label, Stms, NoStms, Stms'}
use Rattle.sc_world.specs.Exec.{is_scalar}
use Rattle.run_exprs.specs.Room.{room}

abbrev pub room_if : Option Exp → ℕ
room_if None = 0
room_if (Some e) = room e

-- Declarations: a value in braces is kept until all of them are evaluated.

abbrev pub cells_room : (most : ℕ) → Exp → ℕ
cells_room most e = if is_scalar (type_of e) then 1 else most

abbrev pub given_room : (most : ℕ) → Given → ℕ
given_room most x = room x.value + cells_room most x.value

abbrev pub givens_room : (most : ℕ) → List Given → ℕ
givens_room most [] = 0
givens_room most (x ∷ xs) = given_room most x + givens_room most xs

abbrev pub init_room : (most : ℕ) → Init → ℕ
init_room most NoInit = 0
init_room most (One e) = room e
init_room most (Braces xs) = givens_room most xs

abbrev pub decs_room : (most : ℕ) → List Dec → ℕ
decs_room most [] = 0
decs_room most (d ∷ ds) = init_room most d.init + decs_room most ds

abbrev pub start_room : (most : ℕ) → Start → ℕ
start_room most NoStart = 0
start_room most (Begin e) = room e
start_room most (Declare ds) = decs_room most ds

-- Statements.

-- a loop is tested at most once more than its body runs
unfoldable pub loop_room : (depth test body : ℕ) → ℕ
loop_room depth test body = (depth + 1) * test + depth * body

abbrev mutual
  pub stm_room : (depth most : ℕ) → Stm → ℕ
  stm_room depth most (Block ss end) = stms_room depth most ss
  stm_room depth most (Decl ds) = decs_room most ds
  stm_room depth most (Evaluate e) = room_if e
  stm_room depth most (If p e s) = (room e + 1) + stm_room depth most s
  stm_room depth most (IfElse p e s r) = (room e + 1) + (stm_room depth most s + stm_room depth most r)
  stm_room depth most (While p e s) = loop_room depth (room e + 1) (stm_room depth most s)
  stm_room depth most (Do p s e) = loop_room depth (room e + 1) (stm_room depth most s)
  stm_room depth most (For p f c n s) =
      start_room most f + loop_room depth (room_if c + 1) (stm_room depth most s + room_if n)
  stm_room depth most (Switch p e ss) = (room e + 1) + stms_room depth most ss
  stm_room depth most (Case n e) = 0
  stm_room depth most Default = 0
  stm_room depth most (Goto p n) = 1
  stm_room depth most Break = 0
  stm_room depth most Continue = 0
  stm_room depth most (Return p e) = room_if e + 1
  stm_room depth most (Label n s) = stm_room depth most s

  pub stms_room : (depth most : ℕ) → Stms → ℕ
  stms_room depth most NoStms = 0
  stms_room depth most (Stms' s ss) = stm_room depth most s + stms_room depth most ss
