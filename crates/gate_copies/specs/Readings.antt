-- What cells of several objects have: a value for each width, of which one counts.
use Rattle.std.specs.Prelude.{◌≡◌, ℕ, zero, suc, ◌+◌, ◌<◌, ◌≤◌, nat_eq, nat_lt, max, Bool, true, false, not, ◌⊎◌, Option, Some, None, List, [], ◌∷◌, length, map, if◌then◌else◌}
use Rattle.bit_net.specs.declared.nodes.Node.{Node}
use Rattle.bit_net.specs.Runs.{Runs}
use Rattle.gl_sets.specs.declared.pairs.Pair.{Pair}
use Rattle.gl_sets.specs.Guards.{Points, targets_of}
use Rattle.gl_store.specs.declared.values.Val.{Val}
use Rattle.gl_store.specs.declared.stores.Location.{Location}
use Rattle.gl_store.specs.Meets.{Meets, MeetsAll, val_top, kinds, locations_top}
use Rattle.gl_store.specs.Steps.{marked_target}
use Rattle.run_store.specs.declared.Flag.TheVariants as flag
use Rattle.run_store.specs.Concrete.{Cell, Place, nth_cell, load, write, width_kind}
use Rattle.sc_world.specs.Source.{Source}
use Rattle.sc_world.specs.Layout.{Layout}
use Rattle.gate_copies.specs.declared.readings.Guarded.{Guarded}
use Rattle.gate_copies.specs.declared.readings.Reading.{Reading}
use Rattle.gate_copies.specs.Widths.{number_at, width_at}

-- one more than the greatest gate of the values
unfoldable pub guarded_top : List Guarded → ℕ
guarded_top [] = 0
guarded_top (g ∷ gs) = max (max (g.when.at + 1) (val_top g.val)) (guarded_top gs)

unfoldable pub readings_top : List Reading → ℕ
readings_top [] = 0
readings_top (r ∷ rs) = max (guarded_top r.vals.items) (readings_top rs)

-- the value is some cell
pub record IsCell (v : ℕ → Bool) (x : Val) : Type 0 where
  pub cell : Cell
  pub is : Meets v x cell

-- there is a cell, and the value is that cell
abbrev pub MeetsIf : (v : ℕ → Bool) → Val → Option Cell → Type 0
MeetsIf v x None = ⊥
MeetsIf v x (Some c) = Meets v x c

-- One value counts, and is this cell; where there is no cell, none counts.
abbrev pub MeetsOne : (v : ℕ → Bool) → List Guarded → Option Cell → Type 0
MeetsOne v [] None = Unit {0}
MeetsOne v [] (Some c) = ⊥
MeetsOne v (g ∷ gs) o =
    ((v g.when.at ≡ true) × MeetsIf v g.val o × MeetsOne v gs None)
    ⊎ ((v g.when.at ≡ false) × IsCell v g.val × MeetsOne v gs o)

-- each reading is the cell, if there is one, that f gives for its number
abbrev pub Reads : (v : ℕ → Bool) → List Reading → (f : ℕ → Option Cell) → Type 0
Reads v [] f = Unit {0}
Reads v (r ∷ rs) f = MeetsOne v r.vals.items (f 0) × Reads v rs (λ number. f (suc number))

-- what the cell of a target has, where its width is one of the first; nothing for null
abbrev pub found : Source → Layout → (count : ℕ) → List Place → (target : ℕ) → Option Cell
found s p n ps zero = None
found s p n ps (suc at) = if nat_lt (number_at s p at) n then Some (nth_cell ps at) else None

-- the value is what the target of a pointer has, of the width with that number, and counts unless the pointer is null
pub record IsGuarded (ns : List Node) (locations : List Location) (pointer : List Pair) (number : ℕ) (r : Guarded) : Type 0 where
  pub when : r.when.at < length ns
  pub below : val_top r.val ≤ length ns
  pub counts : (choice v : ℕ → Bool) → Runs ns choice v → (target : ℕ) → Points v pointer target → v r.when.at ≡ not (nat_eq target 0)
  pub value : (choice v : ℕ → Bool) → Runs ns choice v → (ps : List Place) → MeetsAll v locations ps → (target : ℕ) → Points v pointer target
      → Meets v r.val (load ps (width_kind (width_at number)) target)

-- the values are what the cells have, of the first widths, to which the targets of a set go
pub record AreRead (ns : List Node) (s : Source) (p : Layout) (locations : List Location) (from : List Pair) (targets : List ℕ) (count : ℕ) (vals : List Guarded) : Type 0 where
  pub below : guarded_top vals ≤ length ns
  pub value : (choice v : ℕ → Bool) → Runs ns choice v → (ps : List Place) → MeetsAll v locations ps → (g : ℕ → ℕ) → map g (targets_of from) ≡ targets
      → (target : ℕ) → Points v from target → MeetsOne v vals (found s p count ps (g target))

-- the store after a cell, if there is one, is stored at a target, and the target is marked as written
abbrev pub stored_at : List Place → (target : ℕ) → Option Cell → List Place
stored_at ps target None = ps
stored_at ps target (Some c) = marked_target (write ps target c) target flag.Written true

-- the value is stored at the target of a pointer, where it counts and `live` holds
pub record IsStoredWhere (ns : List Node) (live : ℕ) (pointer : List Pair) (guarded : Guarded) (old new : List Location) : Type 0 where
  pub below : locations_top new ≤ length ns
  pub same : kinds new ≡ kinds old
  pub value : (choice v : ℕ → Bool) → Runs ns choice v → (ps : List Place) → MeetsAll v old ps → (target : ℕ) → Points v pointer target
      → (c : Cell) → Meets v guarded.val c
      → MeetsAll v new (if v live then (if v guarded.when.at then stored_at ps target (Some c) else ps) else ps)

-- the value that counts, if one does, is stored at the target of a pointer, where `live` holds
pub record IsPut (ns : List Node) (live : ℕ) (pointer : List Pair) (vals : List Guarded) (old new : List Location) : Type 0 where
  pub below : locations_top new ≤ length ns
  pub same : kinds new ≡ kinds old
  pub value : (choice v : ℕ → Bool) → Runs ns choice v → (ps : List Place) → MeetsAll v old ps → (target : ℕ) → Points v pointer target
      → (o : Option Cell) → MeetsOne v vals o → MeetsAll v new (if v live then stored_at ps target o else ps)
