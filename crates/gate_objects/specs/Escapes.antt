-- Objects that escape, as gates: for every choice the object of what a value points to is marked as it is in a run.
use Rattle.std.specs.Prelude.{◌≡◌, ℕ, zero, suc, ◌≤◌, Bool, List, [], ◌∷◌, length, take, All}
use Rattle.bit_net.specs.declared.nodes.Node.{Node}
use Rattle.bit_net.specs.Runs.{Runs}
use Rattle.gl_sets.specs.declared.pairs.Pair.{Pair}
use Rattle.gl_sets.specs.Guards.{Points, guards_top}
use Rattle.gl_store.specs.declared.values.Val.{Val}
use Rattle.gl_store.specs.declared.stores.Location.{Location}
use Rattle.gl_store.specs.Meets.{Meets, val_top, kinds, locations_top}
use Rattle.run_store.specs.declared.Flag.{Flag}
use Rattle.run_store.specs.Concrete.{Cell}
use Rattle.sc_world.specs.Source.{Source}
use Rattle.sc_world.specs.Layout.{Layout, location}
use Rattle.sc_world.specs.World.{Run, done, mark}
use Rattle.sc_world.specs.Known.{escape, escape_at}
use Rattle.sc_world.specs.Eval.{escape_all}
use Rattle.gate_runs.specs.declared.ends.Ends.{Ends}
use Rattle.gate_runs.specs.Stands.{Does, Any}
use Rattle.gate_places.specs.Places.{env_of}
pub use Rattle.gate_acts.specs.Acts.{IsPointerOf}

-- a target is one more than a place, and 0 is null: the place is marked, and null is left alone
abbrev pub mark_target : (target : ℕ) → Flag → Run (Unit {0})
mark_target zero f = done tt
mark_target (suc at) f = mark at f

-- what a pointer points to is marked
pub record MarksTarget (ns : List Node) (gates : Ends) (flag : Flag) (pointer : List Pair) (old new : List Location) : Type 0 where
  pub top : locations_top new ≤ length ns
  pub same : kinds new ≡ kinds old
  pub does : (choice v : ℕ → Bool) → Runs ns choice v → (target : ℕ) → Points v pointer target
      → Does v old gates (mark_target target flag) new gates (Any {A = Unit {0}})

-- the target of the whole object in which a target is
abbrev pub object_target : Layout → (target : ℕ) → ℕ
object_target p zero = zero
object_target p (suc at) = suc (location p at).root

-- the pointer to the whole object in which is what a pointer points to
pub record IsObjectOf (p : Layout) (ns : List Node) (pointer object : List Pair) : Type 0 where
  pub below : guards_top object ≤ length ns
  pub points : (choice v : ℕ → Bool) → Runs ns choice v → (target : ℕ) → Points v pointer target → Points v object (object_target p target)

-- the object of what a pointer points to escapes
pub record EscapesTarget (p : Layout) (ns : List Node) (gates : Ends) (pointer : List Pair) (old new : List Location) : Type 0 where
  pub top : locations_top new ≤ length ns
  pub same : kinds new ≡ kinds old
  pub does : (choice v : ℕ → Bool) → Runs ns choice v → (s : Source) (bits : List Bool) (temps : List Cell) (turn target : ℕ) → Points v pointer target
      → Does v old gates (escape_at (env_of s p bits temps turn) target) new gates (Any {A = Unit {0}})

-- The object of what the value points to escapes.
pub record DoesEscape (p : Layout) (ns : List Node) (gates : Ends) (val : Val) (old new : List Location) : Type 0 where
  pub top : locations_top new ≤ length ns
  pub same : kinds new ≡ kinds old
  pub does : (choice v : ℕ → Bool) → Runs ns choice v → (s : Source) (bits : List Bool) (temps : List Cell) (turn : ℕ) (c : Cell) → Meets v val c
      → Does v old gates (escape (env_of s p bits temps turn) c) new gates (Any {A = Unit {0}})

-- the values are these cells, one by one
abbrev pub MeetsEach : (v : ℕ → Bool) → List Val → List Cell → Type 0
MeetsEach v [] [] = Unit {0}
MeetsEach v (x ∷ xs) (c ∷ cs) = Meets v x c × MeetsEach v xs cs
MeetsEach v _ _ = ⊥

-- all gates of the values are gates of the net
abbrev pub AreBelow : List Node → List Val → Type 0
AreBelow ns xs = All (λ x. val_top x ≤ length ns) xs

-- the objects of the first i values escape
pub record EscapesFirst (p : Layout) (ns : List Node) (gates : Ends) (i : ℕ) (vals : List Val) (old new : List Location) : Type 0 where
  pub top : locations_top new ≤ length ns
  pub same : kinds new ≡ kinds old
  pub does : (choice v : ℕ → Bool) → Runs ns choice v → (s : Source) (bits : List Bool) (temps : List Cell) (turn : ℕ) (cs : List Cell) → MeetsEach v vals cs
      → Does v old gates (escape_all (env_of s p bits temps turn) (take i cs)) new gates (Any {A = Unit {0}})

-- The objects of what the values point to escape, one after the other.
pub record DoesEscapeAll (p : Layout) (ns : List Node) (gates : Ends) (vals : List Val) (old new : List Location) : Type 0 where
  pub top : locations_top new ≤ length ns
  pub same : kinds new ≡ kinds old
  pub does : (choice v : ℕ → Bool) → Runs ns choice v → (s : Source) (bits : List Bool) (temps : List Cell) (turn : ℕ) (cs : List Cell) → MeetsEach v vals cs
      → Does v old gates (escape_all (env_of s p bits temps turn) cs) new gates (Any {A = Unit {0}})
