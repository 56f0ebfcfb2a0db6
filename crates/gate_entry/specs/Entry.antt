-- The store with which a function begins, as gates whose inputs are the bits of the choice: for each choice it is the
-- store of the world at entry.
use Rattle.std.specs.Prelude.{◌≡◌, ◌⊎◌, ℕ, ◌+◌, ◌<◌, ◌≤◌, nat_eq, Bool, Option, IfSome, List, ◌++◌, length, map, All}
use Rattle.bit_net.specs.declared.nodes.Gate.{Gate}
use Rattle.bit_net.specs.declared.nodes.Node.{Node}
use Rattle.bit_net.specs.Runs.{Runs}
use Rattle.bit_words.specs.Number.{number, top}
use Rattle.gl_sets.specs.declared.pairs.Pair.{Pair}
use Rattle.gl_sets.specs.Guards.{Points, guards_top}
use Rattle.gl_store.specs.declared.values.Val.{Val}
use Rattle.gl_store.specs.declared.stores.Flags.{Flags}
use Rattle.gl_store.specs.declared.stores.Location.{Location as Guarded}
use Rattle.gl_store.specs.Meets.{Meets, MeetsMarks, MeetsAll, val_kind, val_top, kinds, flags_top, locations_top}
use Rattle.run_store.specs.Concrete.{Kind, Numbers, Pointers, NoCell, Place}
use Rattle.fsm_spec.specs.Table.{bits_of_states}
use Rattle.sc_world.specs.Source.{Source}
use Rattle.sc_world.specs.Layout.{Layout, Location}
use Rattle.sc_world.specs.World.{bit_at, number_at, kind_of_type, chosen_cell, entry_cell, states, state_width, entry_state_at}
use Rattle.sc_world.specs.World.{target_of, no_marks, entry_world}
use Rattle.gate_places.specs.Places.{IsLaid}

-- Bits of the choice.

-- so many bits from that one on are bits of the layout
abbrev pub AreWithin : Layout → (at width : ℕ) → Type 0
AreWithin p at width = (k : ℕ) → k < width → at + k < p.bits

-- they are, or the choice has no bits beyond those of the layout
abbrev pub HasBits : Layout → List Bool → (at width : ℕ) → Type 0
HasBits p bits at width = (length bits ≤ p.bits) ⊎ AreWithin p at width

-- the gate is a bit of the choice
pub record IsBit (p : Layout) (ns : List Node) (k gate : ℕ) : Type 0 where
  pub below : gate < length ns
  pub value : (bits : List Bool) (v : ℕ → Bool) → Runs ns (bit_at bits) v → HasBits p bits k 1 → v gate ≡ bit_at bits k

-- the word is a number of the choice
pub record IsNumber (p : Layout) (ns : List Node) (at width : ℕ) (word : List Gate) : Type 0 where
  pub wide : length word ≡ width
  pub below : top word ≤ length ns
  pub value : (bits : List Bool) (v : ℕ → Bool) → Runs ns (bit_at bits) v → HasBits p bits at width → number v word ≡ number_at bits at width

-- the gate holds where these bits of the choice spell the number n
pub record IsChosenNumber (p : Layout) (ns : List Node) (at width n gate : ℕ) : Type 0 where
  pub below : gate < length ns
  pub value : (bits : List Bool) (v : ℕ → Bool) → Runs ns (bit_at bits) v → HasBits p bits at width → v gate ≡ nat_eq (number_at bits at width) n

-- Cells.

-- how many bits of the choice a cell of that kind has
abbrev pub bits_of : Kind → ℕ
bits_of (Numbers width) = width
bits_of Pointers = 1
bits_of NoCell = 0

-- the set is the pointer that the choice gives
pub record IsPointer (p : Layout) (ns : List Node) (at : ℕ) (own : Option ℕ) (pairs : List Pair) : Type 0 where
  pub below : guards_top pairs ≤ length ns
  pub points : (bits : List Bool) (v : ℕ → Bool) → Runs ns (bit_at bits) v → HasBits p bits at 1 → Points v pairs (target_of (chosen_cell bits Pointers at own))

-- the value is the cell of that kind that the choice gives
pub record IsChosen (p : Layout) (ns : List Node) (kind : Kind) (at : ℕ) (own : Option ℕ) (r : Val) : Type 0 where
  pub below : val_top r ≤ length ns
  pub same : val_kind r ≡ kind
  pub meets : (bits : List Bool) (v : ℕ → Bool) → Runs ns (bit_at bits) v → HasBits p bits at (bits_of kind) → Meets v r (chosen_cell bits kind at own)

-- what a location reads of the choice at entry are bits of the layout
pub record ReadsWithin (s : Source) (p : Layout) (l : Location) : Type 0 where
  pub cell : IfSome l.bit (λ at. AreWithin p at (bits_of (kind_of_type s l.type)))
  pub state : IfSome l.state (λ at. AreWithin p at (bits_of_states (states s)))

-- the value is the cell of a location at entry
pub record IsCell (s : Source) (p : Layout) (ns : List Node) (l : Location) (r : Val) : Type 0 where
  pub below : val_top r ≤ length ns
  pub same : val_kind r ≡ kind_of_type s l.type
  pub meets : (bits : List Bool) (v : ℕ → Bool) → Runs ns (bit_at bits) v → (length bits ≤ p.bits) ⊎ ReadsWithin s p l → Meets v r (entry_cell s bits l)

-- the word is the state of a location at entry
pub record IsState (s : Source) (p : Layout) (ns : List Node) (l : Location) (word : List Gate) : Type 0 where
  pub wide : length word ≡ state_width
  pub below : top word ≤ length ns
  pub value : (bits : List Bool) (v : ℕ → Bool) → Runs ns (bit_at bits) v → (length bits ≤ p.bits) ⊎ ReadsWithin s p l
      → number v word ≡ entry_state_at s bits l.state

-- no flag holds
pub record IsUnmarked (ns : List Node) (flags : Flags) : Type 0 where
  pub below : flags_top flags ≤ length ns
  pub value : (choice v : ℕ → Bool) → Runs ns choice v → MeetsMarks v flags no_marks

-- The store.

-- the choice gives all that the locations read of it
abbrev pub IsChoiceOf : Source → Layout → List Location → List Bool → Type 0
IsChoiceOf s p ls bits = (length bits ≤ p.bits) ⊎ All (ReadsWithin s p) ls

-- the kind that is made for a location, and the place that a choice gives for it
abbrev pub KindOf : Type 0
KindOf = Location → Kind

abbrev pub PlaceOf : Type 0
PlaceOf = List Bool → Location → Place

-- for each location there is one that has the kind, and is the place that the choice gives
pub record AreMade (s : Source) (p : Layout) (ns : List Node) (kind : KindOf) (place : PlaceOf) (ls : List Location) (made : List Guarded) : Type 0 where
  pub below : locations_top made ≤ length ns
  pub same : kinds made ≡ map kind ls
  pub meets : (bits : List Bool) (v : ℕ → Bool) → Runs ns (bit_at bits) v → IsChoiceOf s p ls bits → MeetsAll v made (map (place bits) ls)

-- such locations were put behind those that were there
pub record ArePut (s : Source) (p : Layout) (ns : List Node) (kind : KindOf) (place : PlaceOf) (ls : List Location) (old new : List Guarded) : Type 0 where
  pub put : List Guarded
  pub is : new ≡ old ++ put
  pub made : AreMade s p ns kind place ls put

-- the kind of the cell of a location, and that of its state
abbrev pub cell_kind : Source → Location → Kind
cell_kind s l = kind_of_type s l.type

abbrev pub state_kind : Location → Kind
state_kind l = Numbers state_width

-- The store at entry: for each choice it is the store of the world at entry, the cells and behind them the states. The
-- choice has no more bits than the layout, or the locations read bits of the layout alone.
pub record IsEntered (s : Source) (p : Layout) (ns : List Node) (stored : List Guarded) : Type 0 where
  pub below : locations_top stored ≤ length ns
  pub laid : IsLaid s p stored
  pub same : kinds stored ≡ map (cell_kind s) p.locations ++ map state_kind p.locations
  pub meets : (bits : List Bool) (v : ℕ → Bool) → Runs ns (bit_at bits) v → IsChoiceOf s p p.locations bits
      → MeetsAll v stored (entry_world s p bits).places
