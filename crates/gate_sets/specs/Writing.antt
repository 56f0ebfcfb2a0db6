-- Cells that are written where a set leads, as gates: target n + 1 is location n, and of 0 nothing is written. And what is written there:
-- the pointer to an object.
use Rattle.std.specs.Prelude.{◌≡◌, ℕ, zero, suc, ◌≤◌, Bool, Option, List, length}
use Rattle.bit_net.specs.declared.nodes.Node.{Node}
use Rattle.bit_net.specs.Runs.{Runs}
use Rattle.gl_sets.specs.declared.pairs.Pair.{Pair}
use Rattle.gl_sets.specs.Guards.{Points, guards_top}
use Rattle.gl_store.specs.declared.values.Val.{Val}
use Rattle.gl_store.specs.declared.stores.Location.{Location}
use Rattle.gl_store.specs.Meets.{Meets, kinds, locations_top}
use Rattle.run_store.specs.Concrete.{Cell}
use Rattle.sc_world.specs.World.{Run, done, put, store, target_of, target_or_null}
use Rattle.gate_runs.specs.declared.ends.Ends.{Ends}
use Rattle.gate_runs.specs.Stands.{Does, Any}

abbrev pub put_target : (target : ℕ) → Cell → Run (Unit {0})
put_target zero c = done tt
put_target (suc at) c = put at c

abbrev pub store_target : (target : ℕ) → Cell → Run (Unit {0})
store_target zero c = done tt
store_target (suc at) c = store at c

-- the value is put where the set leads
pub record PutsTarget (ns : List Node) (gates : Ends) (pointer : List Pair) (val : Val) (old new : List Location) : Type 0 where
  pub top : locations_top new ≤ length ns
  pub same : kinds new ≡ kinds old
  pub does : (choice v : ℕ → Bool) → Runs ns choice v → (target : ℕ) (c : Cell) → Points v pointer target → Meets v val c
      → Does v old gates (put_target target c) new gates (Any {A = Unit {0}})

-- the value is stored where the set leads
pub record StoresTarget (ns : List Node) (gates : Ends) (pointer : List Pair) (val : Val) (old new : List Location) : Type 0 where
  pub top : locations_top new ≤ length ns
  pub same : kinds new ≡ kinds old
  pub does : (choice v : ℕ → Bool) → Runs ns choice v → (target : ℕ) (c : Cell) → Points v pointer target → Meets v val c
      → Does v old gates (store_target target c) new gates (Any {A = Unit {0}})

-- the pointer to an object that comes with a call, null where there is none
pub record IsObject (ns : List Node) (object : Option ℕ) (pairs : List Pair) : Type 0 where
  pub below : guards_top pairs ≤ length ns
  pub points : (choice v : ℕ → Bool) → Runs ns choice v → Points v pairs (target_of (target_or_null object))
