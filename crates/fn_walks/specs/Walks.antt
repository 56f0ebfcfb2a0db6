-- When gates tell of walks, in runs that come to the function's end.
use Rattle.std.specs.Prelude.{◌≡◌, ◌⊎◌, ℕ, ◌<◌, ◌≤◌, Bool, true, List, length, slice_index_or, Ok}
use Rattle.bit_net.specs.declared.nodes.Gate.{Gate}
use Rattle.bit_net.specs.declared.nodes.Node.{Node}
use Rattle.bit_net.specs.Runs.{Runs}
use Rattle.gl_sets.specs.declared.pairs.Pair.{Pair}
use Rattle.gl_sets.specs.Guards.{Points}
use Rattle.gl_store.specs.declared.stores.Location.{Location as Guarded}
use Rattle.gl_store.specs.declared.values.Val.{Val}
use Rattle.gl_store.specs.Meets.{Meets, MeetsAll}
use Rattle.reach_net.specs.Walks.{holds_at, pointed, gates_top, rows_top, EachWide}
use Rattle.run_store.specs.Concrete.{Cell, Place, nth_cell}
use Rattle.sc_world.specs.Layout.{location, is_pointer_cell}
use Rattle.sc_world.specs.World.{World, bit_at, target_of}
use Rattle.sc_world.specs.Shows.{Over, is_among}
use Rattle.run_world.specs.Seen.{env}
use Rattle.fn_facts.specs.declared.around.Around.{Around}
use Rattle.fn_facts.specs.Seen.{over}
use Rattle.fn_facts.specs.Showing.{Told}
use Rattle.fn_walks.specs.declared.roots.From.{From}
use Rattle.fn_walks.specs.declared.walking.Walk.{Walk}
use Rattle.fn_walks.specs.Seen.{roots, is_reached, leads, begins_behind}

-- Cells.

-- the gate holds where the fact is one of what the pointer points to, null being 0
pub record ShowsSet (a : Around) (ns : List Node) (pairs : List Pair) (of : Over → ℕ → Bool) (gate : ℕ) : Type 0 where
  pub below : gate < length ns
  pub value : (bits : List Bool) (v : ℕ → Bool) (c : Cell) (w : World) → Runs ns (bit_at bits) v → Told a v bits (Ok c) w
      → (t : ℕ) → Points v pairs t → v gate ≡ of (over a bits (Ok c) w) t

-- the gate holds where the fact is one of the value
pub record ShowsOf (a : Around) (ns : List Node) (val : Val) (of : Over → Cell → Bool) (gate : ℕ) : Type 0 where
  pub below : gate < length ns
  pub value : (bits : List Bool) (v : ℕ → Bool) (c : Cell) (w : World) → Runs ns (bit_at bits) v → Told a v bits (Ok c) w
      → (x : Cell) → Meets v val x → v gate ≡ of (over a bits (Ok c) w) x

-- the gate holds where the fact is one of the cell with that place, in the stores that these locations make
pub record ShowsCell (a : Around) (ns : List Node) (ls : List Guarded) (at : ℕ) (of : Over → Cell → Bool) (gate : ℕ) : Type 0 where
  pub below : gate < length ns
  pub value : (bits : List Bool) (v : ℕ → Bool) (c : Cell) (w : World) → Runs ns (bit_at bits) v → Told a v bits (Ok c) w
      → (ps : List Place) → MeetsAll v ls ps → v gate ≡ of (over a bits (Ok c) w) (nth_cell ps at)

-- a value that never leads anywhere, and a location whose cell never does
abbrev pub IsNowhere : Val → Type 0
IsNowhere val = (v : ℕ → Bool) (c : Cell) → Meets v val c → target_of c ≡ 0

abbrev pub IsNowhereAt : List Guarded → (at : ℕ) → Type 0
IsNowhereAt ls at = (v : ℕ → Bool) (ps : List Place) → MeetsAll v ls ps → target_of (nth_cell ps at) ≡ 0

abbrev pub NeverLeads : Around → (at : ℕ) → Type 0
NeverLeads a at = IsNowhereAt a.encoded.now.store.locations.items at

-- Objects through which walks may lead.

-- a location has no pointer cell, or one that leads nowhere or that walks begin behind, or its object is one of these
abbrev pub IsCovered : Around → From → List ℕ → (at : ℕ) → Type 0
IsCovered a f ms at =
    (is_pointer_cell (location (env a.here).layout at) ≡ true)
    → (NeverLeads a at ⊎ (begins_behind (env a.here).layout f.beside (location (env a.here).layout at).root ≡ true))
    ⊎ (is_among ms (location (env a.here).layout at).root ≡ true)

pub record Covers (a : Around) (f : From) (ms : List ℕ) : Type 0 where
  pub covers : (at : ℕ) → at < length (env a.here).layout.locations → IsCovered a f ms at

-- the same of the first k locations
pub record CoversBelow (a : Around) (f : From) (ms : List ℕ) (k : ℕ) : Type 0 where
  pub covers : (at : ℕ) → at < k → IsCovered a f ms at

-- Gates for objects.

-- the object with a place in a list, and the target of the pair with a place
abbrev pub nth : List ℕ → ℕ → ℕ
nth ms i = slice_index_or ms i 0

abbrev pub target_in : List Pair → ℕ → ℕ
target_in pairs i = (slice_index_or pairs i (record { guard = record { at = 0 }; target = 0 })).target

-- for each of so many numbers a gate that holds where the fact is one of it
pub record Each (a : Around) (ns : List Node) (of : Over → ℕ → Bool) (at : ℕ → ℕ) (count : ℕ) (gates : List Gate) : Type 0 where
  pub wide : length gates ≡ count
  pub below : gates_top gates ≤ length ns
  pub value : (bits : List Bool) (v : ℕ → Bool) (c : Cell) (w : World) → Runs ns (bit_at bits) v → Told a v bits (Ok c) w
      → (i : ℕ) → i < count → holds_at v gates i ≡ of (over a bits (Ok c) w) (at i)

abbrev pub AreTests : Around → List Node → (Over → ℕ → Bool) → List Pair → List Gate → Type 0
AreTests a ns of pairs gates = Each a ns of (target_in pairs) (length pairs) gates

abbrev pub AreStepsOf : Around → List Node → ℕ → List ℕ → List Gate → Type 0
AreStepsOf a ns m ms gates = Each a ns (λ o n. leads o m n) (nth ms) (length ms) gates

abbrev pub AreRoots : Around → List Node → From → List ℕ → List Gate → Type 0
AreRoots a ns f ms gates = Each a ns (λ o n. is_among (roots o f) n) (nth ms) (length ms) gates

-- for each two of some objects
pub record AreSteps (a : Around) (ns : List Node) (ms : List ℕ) (count : ℕ) (rows : List (List Gate)) : Type 0 where
  pub each : length rows ≡ count
  pub wide : EachWide (length ms) rows
  pub below : rows_top rows ≤ length ns
  pub value : (bits : List Bool) (v : ℕ → Bool) (c : Cell) (w : World) → Runs ns (bit_at bits) v → Told a v bits (Ok c) w
      → (i j : ℕ) → i < count → j < length ms → pointed v rows i j ≡ leads (over a bits (Ok c) w) (nth ms i) (nth ms j)

-- the gates of walks
pub record IsWalk (a : Around) (ns : List Node) (w : Walk) : Type 0 where
  pub covers : Covers a w.from w.through.items
  pub found : Each a ns (λ o n. is_reached o w.from n) (nth w.through.items) (length w.through.items) w.found.items
