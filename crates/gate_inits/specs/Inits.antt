-- Initialisers as gates: what the gates promise of what is done with values, for every choice.
use Rattle.std.specs.Prelude.{◌≡◌, ℕ, suc, ◌+◌, ◌≤◌, Bool, true, Option, Some, None, List, [], ◌∷◌, length, map, slice_get, if◌then◌else◌}
use Rattle.bit_net.specs.declared.nodes.Node.{Node}
use Rattle.bit_net.specs.Runs.{Runs}
use Rattle.gl_sets.specs.declared.pairs.Pair.{Pair}
use Rattle.gl_sets.specs.Guards.{targets_of}
use Rattle.gl_store.specs.declared.values.Val.{Val}
use Rattle.gl_store.specs.declared.stores.Location.{Location}
use Rattle.gl_store.specs.Meets.{Meets, MeetsAll, kinds, locations_top}
use Rattle.run_store.specs.Concrete.{Cell, Place, blank}
use Rattle.sc_world.specs.Tree.{Ty}
use Rattle.sc_world.specs.Source.{Source}
use Rattle.sc_world.specs.Layout.{Layout, location, has_type}
use Rattle.sc_world.specs.World.{Env, Run, done, store, kind_of_type}
use Rattle.sc_world.specs.Eval.{place_of, cells_of, load_all, store_all, copy}
use Rattle.sc_world.specs.Exec.{clear, set_part}
use Rattle.run_laws.specs.Fits.{is_scalar, if_scalar}
use Rattle.gate_runs.specs.declared.ends.Ends.{Ends}
use Rattle.gate_runs.specs.Stands.{Does, Any}
use Rattle.gate_places.specs.Places.{GoodFor, env_of}
pub use Rattle.gate_copies.specs.declared.readings.Reading.{Reading}
use Rattle.gate_copies.specs.Objects.{object_targets}
use Rattle.gate_copies.specs.declared.readings.Guarded.{Guarded}
use Rattle.gate_copies.specs.Readings.{MeetsOne, Reads, stored_at}
unfoldable pub use Rattle.gate_copies.specs.Readings.{readings_top}

-- What is done with the value of an expression of that type: a scalar is its value, an object is told by its place.

-- an object is set to it
abbrev pub set_to : Env → Ty → (at : ℕ) → Cell → Run (Unit {0})
set_to env t at c = if is_scalar t then store at c else copy env (place_of c) at

-- the cells that it has: one of a scalar, those of the object of a struct
abbrev pub cells_in : Env → Ty → Cell → Run (List Cell)
cells_in env t c = if is_scalar t then done (c ∷ []) else load_all (cells_of env.layout (place_of c))

-- Cells that are kept: a reading for each of them, in order, and perhaps readings of which no value counts.
abbrev pub HaveCells : (v : ℕ → Bool) → List Reading → List Cell → Type 0
HaveCells v readings cells = Reads v readings (λ number. slice_get cells number) × (length cells ≤ length readings)

-- the object at a location of the type is set to the value
pub record DoesSet (s : Source) (p : Layout) (ns : List Node) (gates : Ends) (t : Ty) (at : ℕ) (val : Val) (old new : List Location) : Type 0 where
  pub top : locations_top new ≤ length ns
  pub same : kinds new ≡ kinds old
  pub does : (choice v : ℕ → Bool) → Runs ns choice v → has_type (location p at) t ≡ true → (bits : List Bool) (temps : List Cell) (turn : ℕ) (c : Cell)
      → GoodFor v gates p (if_scalar t) t val c → Does v old gates (set_to (env_of s p bits temps turn) t at c) new gates Any

-- the cells of the value are kept
pub record DoesGive (s : Source) (p : Layout) (ns : List Node) (t : Ty) (val : Val) (stored : List Location) (readings : List Reading) : Type 0 where
  pub below : readings_top readings ≤ length ns
  pub does : (choice v : ℕ → Bool) → Runs ns choice v → (gates : Ends) (bits : List Bool) (temps : List Cell) (turn : ℕ) (c : Cell)
      → GoodFor v gates p (if_scalar t) t val c → Does v stored gates (cells_in (env_of s p bits temps turn) t c) stored gates (HaveCells v readings)

-- the cells of the object at a location are set to 0 or null
pub record DoesClear (s : Source) (p : Layout) (ns : List Node) (gates : Ends) (at : ℕ) (old new : List Location) : Type 0 where
  pub top : locations_top new ≤ length ns
  pub same : kinds new ≡ kinds old
  pub does : (choice v : ℕ → Bool) → Runs ns choice v → (bits : List Bool) (temps : List Cell) (turn : ℕ)
      → Does v old gates (clear (env_of s p bits temps turn) (cells_of p at)) new gates Any

-- a part, if there is one, is set to kept cells
pub record DoesSetPart (p : Layout) (ns : List Node) (gates : Ends) (part : Option ℕ) (readings : List Reading) (old new : List Location) : Type 0 where
  pub top : locations_top new ≤ length ns
  pub same : kinds new ≡ kinds old
  pub does : (choice v : ℕ → Bool) → Runs ns choice v → (s : Source) (bits : List Bool) (temps : List Cell) (turn : ℕ) (cells : List Cell) → HaveCells v readings cells
      → Does v old gates (set_part (env_of s p bits temps turn) part cells) new gates Any

-- the one cell of a scalar is kept
pub record IsOneCell (ns : List Node) (val : Val) (readings : List Reading) : Type 0 where
  pub below : readings_top readings ≤ length ns
  pub have : (choice v : ℕ → Bool) → Runs ns choice v → (c : Cell) → Meets v val c → HaveCells v readings (c ∷ [])

-- for each target the cells of the object to which it leads, where it may be of the type
abbrev pub objects_at : Layout → Ty → List Pair → List (List ℕ)
objects_at p t pairs = map (object_targets p t) (targets_of pairs)

-- Steps of loops.

-- the store after a cell, if there is one, is stored at a target, if there is one
abbrev pub stored_if : List Place → Option ℕ → Option Cell → List Place
stored_if ps None o = ps
stored_if ps (Some target) o = stored_at ps target o

-- what was kept is stored at a target, where a gate holds
pub record IsSetAt (ns : List Node) (live : ℕ) (target : Option ℕ) (vals : List Guarded) (old new : List Location) : Type 0 where
  pub below : locations_top new ≤ length ns
  pub same : kinds new ≡ kinds old
  pub value : (choice v : ℕ → Bool) → Runs ns choice v → (ps : List Place) → MeetsAll v old ps → (o : Option Cell) → MeetsOne v vals o
      → MeetsAll v new (if v live then stored_if ps target o else ps)

-- the cells at these targets are set to what was kept, as long as there are both
pub record SetsCells (ns : List Node) (gates : Ends) (targets : List ℕ) (readings : List Reading) (old new : List Location) : Type 0 where
  pub top : locations_top new ≤ length ns
  pub same : kinds new ≡ kinds old
  pub does : (choice v : ℕ → Bool) → Runs ns choice v → (ks : List ℕ) → targets ≡ map suc ks → (cells : List Cell) → HaveCells v readings cells
      → Does v old gates (store_all ks cells) new gates Any

-- A location is set to 0 or null of its type.
pub record DoesBlank (s : Source) (p : Layout) (ns : List Node) (gates : Ends) (target : ℕ) (old new : List Location) : Type 0 where
  pub top : locations_top new ≤ length ns
  pub same : kinds new ≡ kinds old
  pub does : (choice v : ℕ → Bool) → Runs ns choice v → (at : ℕ) → target ≡ at + 1
      → Does v old gates (store at (blank (kind_of_type s (location p at).type))) new gates Any

-- the cells at these targets are set to 0 or null
pub record ClearsCells (s : Source) (p : Layout) (ns : List Node) (gates : Ends) (targets : List ℕ) (old new : List Location) : Type 0 where
  pub top : locations_top new ≤ length ns
  pub same : kinds new ≡ kinds old
  pub does : (choice v : ℕ → Bool) → Runs ns choice v → (ks : List ℕ) → targets ≡ map suc ks → (bits : List Bool) (temps : List Cell) (turn : ℕ)
      → Does v old gates (clear (env_of s p bits temps turn) ks) new gates Any

-- where what is left to do is done, all of it is done
abbrev pub Leaves : (v : ℕ → Bool) → Ends → (old mid : List Location) → (all rest : Run (Unit {0})) → Type 0
Leaves v gates old mid all rest = (new : List Location) → Does v mid gates rest new gates Any → Does v old gates all new gates Any
