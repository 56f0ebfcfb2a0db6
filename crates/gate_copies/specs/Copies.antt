-- Assignment of objects as gates: what the gates promise of it for every choice.
use Rattle.std.specs.Prelude.{◌≡◌, ℕ, zero, suc, ◌≤◌, Bool, Option, List, length, map, if◌then◌else◌}
use Rattle.bit_net.specs.declared.nodes.Node.{Node}
use Rattle.bit_net.specs.Runs.{Runs}
use Rattle.gl_sets.specs.declared.pairs.Pair.{Pair}
use Rattle.gl_sets.specs.declared.sets.Set.{Set as Sets}
use Rattle.gl_sets.specs.Guards.{Points, targets_of}
use Rattle.gl_store.specs.declared.values.Val.{Val}
use Rattle.gl_store.specs.declared.values.Val.TheVariants.{Set}
use Rattle.gl_store.specs.declared.stores.Location.{Location}
use Rattle.gl_store.specs.Meets.{MeetsAll, val_kind, val_top, kinds, locations_top}
use Rattle.run_store.specs.Concrete.{Cell, Pointers, Place}
use Rattle.sc_world.specs.Tree.{Ty}
use Rattle.sc_world.specs.Source.{Source}
use Rattle.sc_world.specs.Layout.{Layout}
use Rattle.sc_world.specs.Eval.{Place', assign_struct}
use Rattle.gate_runs.specs.declared.ends.Ends.{Ends}
use Rattle.gate_runs.specs.Stands.{Does}
use Rattle.gate_places.specs.Places.{GoodFor, env_of}
use Rattle.gate_copies.specs.declared.readings.Reading.{Reading}
use Rattle.gate_copies.specs.Objects.{cell_with}
use Rattle.gate_copies.specs.Widths.{widths}
use Rattle.gate_copies.specs.Readings.{MeetsOne, Reads, found, guarded_top, readings_top, stored_at}

-- The cells of the object to which each pair leads are given as a list for each pair; g says which these are for a target.

-- what the cells with that number have of the object to which a set leads
pub record IsReading (ns : List Node) (s : Source) (p : Layout) (locations : List Location) (from : List Pair) (cells : List (List ℕ)) (number : ℕ) (r : Reading) : Type 0 where
  pub below : guarded_top r.vals.items ≤ length ns
  pub value : (choice v : ℕ → Bool) → Runs ns choice v → (ps : List Place) → MeetsAll v locations ps
      → (g : ℕ → List ℕ) → map g (targets_of from) ≡ cells → (target : ℕ) → Points v from target
      → MeetsOne v r.vals.items (found s p widths ps (cell_with (g target) number))

-- what the first cells have of the object to which a set leads
pub record HaveRead (ns : List Node) (s : Source) (p : Layout) (locations : List Location) (from : List Pair) (cells : List (List ℕ)) (count : ℕ) (readings : List Reading) : Type 0 where
  pub below : readings_top readings ≤ length ns
  pub many : length readings ≡ count
  pub value : (choice v : ℕ → Bool) → Runs ns choice v → (ps : List Place) → MeetsAll v locations ps
      → (g : ℕ → List ℕ) → map g (targets_of from) ≡ cells → (target : ℕ) → Points v from target
      → Reads v readings (λ number. found s p widths ps (cell_with (g target) number))

-- the store after the first cells of an object are stored: f gives what is stored in each
abbrev pub stored_all : (count : ℕ) → (cells : List ℕ) → (f : ℕ → Option Cell) → List Place → List Place
stored_all zero cells f ps = ps
stored_all (suc number) cells f ps = stored_at (stored_all number cells f ps) (cell_with cells number) (f number)

-- what was read is stored in the cell with that number of the object to which a set leads, where `live` holds
pub record IsStoredIn (ns : List Node) (live : ℕ) (place : List Pair) (cells : List (List ℕ)) (number : ℕ) (reading : Reading) (old new : List Location) : Type 0 where
  pub below : locations_top new ≤ length ns
  pub same : kinds new ≡ kinds old
  pub value : (choice v : ℕ → Bool) → Runs ns choice v → (ps : List Place) → MeetsAll v old ps
      → (g : ℕ → List ℕ) → map g (targets_of place) ≡ cells → (target : ℕ) → Points v place target → (o : Option Cell) → MeetsOne v reading.vals.items o
      → MeetsAll v new (if v live then stored_at ps (cell_with (g target) number) o else ps)

-- the first readings are stored in the cells of the object to which a set leads, where `live` holds
pub record HaveStored (ns : List Node) (live : ℕ) (place : List Pair) (cells : List (List ℕ)) (readings : List Reading) (count : ℕ) (old new : List Location) : Type 0 where
  pub below : locations_top new ≤ length ns
  pub same : kinds new ≡ kinds old
  pub value : (choice v : ℕ → Bool) → Runs ns choice v → (ps : List Place) → MeetsAll v old ps
      → (g : ℕ → List ℕ) → map g (targets_of place) ≡ cells → (target : ℕ) → Points v place target → (f : ℕ → Option Cell) → Reads v readings f
      → MeetsAll v new (if v live then stored_all count (g target) f ps else ps)

-- All cells of the object to which `from` leads are read, then those of the object to which `place` leads are stored.
pub record DoesCopy (s : Source) (p : Layout) (ns : List Node) (gates : Ends) (t : Ty) (place from : Sets) (old new : List Location) (r : Val) : Type 0 where
  pub below : val_top r ≤ length ns
  pub top : locations_top new ≤ length ns
  pub same : kinds new ≡ kinds old
  pub kind : val_kind r ≡ Pointers
  pub does : (choice v : ℕ → Bool) → Runs ns choice v → (bits : List Bool) (temps : List Cell) (turn : ℕ) (q c : Cell)
      → GoodFor v gates p Place' t (Set place) q → GoodFor v gates p Place' t (Set from) c
      → Does v old gates (assign_struct (env_of s p bits temps turn) q c) new gates (GoodFor v gates p Place' t r)
