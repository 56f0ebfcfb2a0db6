-- A function's body as a graph without cycles, and its walks. The walk from a node makes what the node does, and goes on
-- at a node that the node names.
use Rattle.std.specs.Prelude.{ℕ, zero, suc, nat_eq, Bool, Option, Some, None, List, [], ◌∷◌, map, slice_index_or, if◌then◌else◌}
use Rattle.sc_base.specs.declared.pos.Pos.{Pos}
use Rattle.sc_tree.specs.declared.op.BinaryOp.{BinaryOp}
use Rattle.sc_tree.specs.declared.expr.Place.{Place}
use Rattle.run_store.specs.Concrete.{Cell, Nothing}
use Rattle.sum_rows.specs.declared.report.What.{What}
use Rattle.sc_world.specs.declared.run.Origin.TheVariants as origin
use Rattle.sc_world.specs.declared.run.Reason.{Reason}
use Rattle.sc_world.specs.declared.run.Reason.TheVariants as reason
use Rattle.sc_world.specs.Tree.{Ty, Exp, Given, One}
use Rattle.sc_world.specs.Source.{Source}
use Rattle.sc_world.specs.Layout.{Layout, location_of, site_at}
use Rattle.sc_world.specs.World.{Run, ◌>>=◌, done, aside, Env, is_true, number_of, event}
use Rattle.sc_world.specs.Eval.{Want, eval, call, combined, assign_value, cells_of}
use Rattle.sc_world.specs.Exec.{cells_given, clear, set_parts, initialise, switch_event, result_or}

-- a call of the text, in a turn of the loops round it
pub record Calling : Type 0 where
  pub place : Place
  pub callee : Exp
  pub result : Ty
  pub turn : ℕ

-- `+=` and its kin: the operator, the type in which it works, the type of the object
pub record Updating : Type 0 where
  pub op : BinaryOp
  pub works : Ty
  pub ctype : Ty

-- Temps and slots go by numbers: a temp keeps a value or a place, a slot the cells of a value.
pub data Node : Type 0 where
  -- keeps the value of an expression, or the place of an lvalue
  Keep : Want → (temp : ℕ) → Exp → (next : ℕ) → Node
  -- keeps the cells of an expression's value
  KeepCells : (slot : ℕ) → Exp → (next : ℕ) → Node
  -- makes a call with kept arguments, and keeps what it gives
  CallOf : Calling → (args : List ℕ) → (temp next : ℕ) → Node
  -- sets a kept place to what the operator makes of the old value and the right one, both kept
  Update : Updating → Want → (place old right temp next : ℕ) → Node
  -- sets a local to one value
  Set : (local : ℕ) → Exp → (next : ℕ) → Node
  -- sets the parts of a local to kept cells, the rest to 0 or null
  Fill : (local : ℕ) → List Given → (slots : List ℕ) → (next : ℕ) → Node
  -- goes on at `hit` where the kept value is not 0, else at `miss`
  Branch : (from hit miss : ℕ) → Node
  -- goes on at `hit` where the kept value is that number, else at `miss`
  Choose : (from number hit miss : ℕ) → Node
  -- adds an event to the trace; that of a `switch` has its number from a temp
  Mark : Pos → What → (next : ℕ) → Node
  MarkSwitch : Pos → Ty → (from next : ℕ) → Node
  -- the function ends, with the kept value or without one
  Exit : (from : Option ℕ) → Node
  SetAside : Reason → Node

-- What is kept.
pub record Kept : Type 0 where
  pub temps : List Cell
  pub slots : List (List Cell)

abbrev pub nothing_kept : Kept
nothing_kept = record { temps = []; slots = [] }

-- the list with an element at a place; what lies between is `blank`
abbrev pub with_at : {A : Type 0} → A → ℕ → A → List A → List A
with_at blank zero x [] = x ∷ []
with_at blank zero x (y ∷ ys) = x ∷ ys
with_at blank (suc n) x [] = blank ∷ with_at blank n x []
with_at blank (suc n) x (y ∷ ys) = y ∷ with_at blank n x ys

abbrev pub temp : Kept → ℕ → Cell
temp k n = slice_index_or k.temps n Nothing

abbrev pub slot : Kept → ℕ → List Cell
slot k n = slice_index_or k.slots n []

abbrev pub keep : ℕ → Cell → Kept → Kept
keep n x k = record k { temps = with_at Nothing n x k.temps }

abbrev pub keep_cells : ℕ → List Cell → Kept → Kept
keep_cells n cs k = record k { slots = with_at [] n cs k.slots }

module _ (s : Source) (p : Layout) (choice : List Bool) where
  -- what an expression of a node reads, and what a call in a turn reads
  abbrev pub reads : Kept → Env
  reads k = record { source = s; layout = p; choice = choice; temps = k.temps; turn = 0 }

  abbrev pub in_tree : ℕ → Env
  in_tree turn = record { source = s; layout = p; choice = choice; temps = []; turn = turn }

  abbrev pub local_at : ℕ → ℕ
  local_at n = location_of p (origin.Local n)

  abbrev pub call_of : Calling → List Cell → Run Cell
  call_of c vs = call (in_tree c.turn) c.place c.callee c.result (site_at p c.place.token) vs

  abbrev pub updated : Updating → Want → (place old right : Cell) → Run Cell
  updated u want at old v =
      combined (in_tree 0) u.op u.works u.ctype old v >>= λ r. assign_value (in_tree 0) want u.ctype at r

  abbrev pub filled : ℕ → List Given → List (List Cell) → Run (Unit {0})
  filled n xs cs = do
    _ ← clear (in_tree 0) (cells_of p (local_at n))
    set_parts (in_tree 0) (local_at n) xs cs

  abbrev pub returned : Kept → Option ℕ → Cell
  returned k None = result_or s Nothing
  returned k (Some t) = result_or s (temp k t)

  -- What a node does; `go` is the walk from a node.
  abbrev pub act : Node → (go : ℕ → Kept → Run Cell) → Kept → Run Cell
  act (Keep want t e next) go k = eval e want (reads k) >>= λ x. go next (keep t x k)
  act (KeepCells n e next) go k = cells_given e (reads k) >>= λ cs. go next (keep_cells n cs k)
  act (CallOf c args t next) go k = call_of c (map (temp k) args) >>= λ x. go next (keep t x k)
  act (Update u want at old right t next) go k =
      updated u want (temp k at) (temp k old) (temp k right) >>= λ x. go next (keep t x k)
  act (Set n e next) go k = initialise (local_at n) (One e) (reads k) >>= λ _. go next k
  act (Fill n xs slots next) go k = filled n xs (map (slot k) slots) >>= λ _. go next k
  act (Branch t hit miss) go k = if is_true (temp k t) then go hit k else go miss k
  act (Choose t n hit miss) go k = if nat_eq (number_of (temp k t)) n then go hit k else go miss k
  act (Mark at x next) go k = event at x >>= λ _. go next k
  act (MarkSwitch at t from next) go k = event at (switch_event (in_tree 0) t (temp k from)) >>= λ _. go next k
  act (Exit from) go k = done (returned k from)
  act (SetAside r) go k = aside r

  -- The walk from the node with that number, in the list of the nodes from number `first` on. Each node goes on at a
  -- greater number; a number that no node has sets the walk aside, and is met by no graph that is made.
  abbrev pub walk_from : (first : ℕ) → List Node → ℕ → Kept → Run Cell
  walk_from first [] at k = aside reason.Null
  walk_from first (n ∷ ns) at k =
      if nat_eq at first then act n (walk_from (suc first) ns) k else walk_from (suc first) ns at k

  -- the walk of a graph, from its first node
  abbrev pub walk : List Node → Run Cell
  walk ns = walk_from 0 ns 0 nothing_kept
