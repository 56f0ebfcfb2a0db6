-- The stores of an initialiser in braces, which are made once all its values are evaluated (C11 6.7.9).
use Rattle.std.specs.Prelude.{◌≡◌, ℕ, ◌-◌, Option, Some, None, List, [], ◌∷◌, ◌++◌, Result, Ok, Err, length, map}
use Rattle.std.specs.List.{range_with_len}
use Rattle.run_store.specs.Concrete.{Cell}
use Rattle.sc_world.specs.Tree.{Given}
use Rattle.sc_world.specs.Layout.{Layout}
use Rattle.sc_world.specs.World.{World, Ended, Run, Env, ◌>>=◌, done, store}
use Rattle.sc_world.specs.Eval.{cells_of, cells_among}
use Rattle.sc_world.specs.Exec.{part_at, cells_given}
use Rattle.run_world.specs.Seen.{cell}
use Rattle.run_inits.specs.declared.stores.Store.{Store}

-- a cell, and the value that it is to have
pub record Due : Type 0 where
  pub at : ℕ
  pub value : Cell

abbrev pub due_of : Store → Due
due_of s = record { at = s.at; value = cell s.value }

abbrev pub stores : List Due → Run (Unit {0})
stores [] = done tt
stores (d ∷ ds) = do
  _ ← store d.at d.value
  stores ds

-- each cell with its value, as long as there are both
abbrev pub paired : List ℕ → List Cell → List Due
paired [] cs = []
paired (k ∷ ks) [] = []
paired (k ∷ ks) (c ∷ cs) = record { at = k; value = c } ∷ paired ks cs

-- what a value of these cells sets in a part
abbrev pub part_stores : Env → Option ℕ → List Cell → List Due
part_stores env None cs = []
part_stores env (Some at) cs = paired (cells_of env.layout at) cs

-- a value in braces is evaluated: what it sets
abbrev pub given_stores : Env → ℕ → Given → Run (List Due)
given_stores env at x = do
  c ← cells_given x.value env
  done (part_stores env (part_at env at x.way) c)

abbrev pub all_stores : Env → ℕ → List Given → Run (List Due)
all_stores env at [] = done []
all_stores env at (x ∷ xs) = do
  ds ← given_stores env at x
  es ← all_stores env at xs
  done (ds ++ es)

-- what is gathered, behind what was before
abbrev pub joined : {A : Type 0} → List A → Result (List A) Ended × World → Result (List A) Ended × World
joined front (Ok xs, w) = (Ok (front ++ xs), w)
joined front (Err e, w) = (Err e, w)
