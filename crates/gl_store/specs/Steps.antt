-- What the calls promise, for every choice.
use Rattle.std.specs.Prelude.{◌≡◌, ℕ, zero, suc, ◌<◌, ◌≤◌, Bool, List, [], ◌∷◌, length, Option, Some, None, if◌then◌else◌}
use Rattle.bit_net.specs.declared.nodes.Gate.{Gate}
use Rattle.bit_net.specs.declared.nodes.Node.{Node}
use Rattle.bit_net.specs.Runs.{Runs}
use Rattle.bit_words.specs.Number.{number, top}
use Rattle.gl_sets.specs.Guards.{Points}
use Rattle.gl_sets.specs.declared.pairs.Pair.{Pair}
use Rattle.gl_store.specs.declared.values.Val.{Val}
use Rattle.run_store.specs.declared.Flag.{Flag}
use Rattle.gl_store.specs.declared.values.CellKind.{CellKind}
use Rattle.gl_store.specs.declared.values.CellKind.TheVariants.{Words, Pointers, NoCell}
use Rattle.gl_store.specs.declared.stores.Flags.{Flags}
use Rattle.gl_store.specs.declared.stores.Location.{Location}
use Rattle.run_store.specs.Concrete.{Cell, Kind, Numbers, Pointers as PointerCells, NoCell as NoCells, Marks, Place, Number, blank, put, load, change, write, nth_cell, fresh}
use Rattle.run_store.specs.Concrete.{width_kind, flag_at, marked, cell_at}
use Rattle.gl_store.specs.Meets.{Meets, MeetsMarks, MeetsPlace, MeetsAll, val_kind, val_top, flags_top, kinds, locations_top}

-- the value is that of a where c holds, else that of b
pub record IsChoice (ns : List Node) (c : ℕ) (a b r : Val) : Type 0 where
  pub below : val_top r ≤ length ns
  pub kind : val_kind r ≡ val_kind b
  pub value : (choice v : ℕ → Bool) → Runs ns choice v → (x y : Cell) → Meets v a x → Meets v b y → Meets v r (if v c then x else y)

-- a choice of two values of one kind, none where the kinds differ
abbrev pub IsChoiceOfKind : (ns : List Node) (c : ℕ) (a b : Val) → Option Val → Type 0
IsChoiceOfKind ns c a b (Some r) = (val_kind a ≡ val_kind b) × IsChoice ns c a b r
IsChoiceOfKind ns c a b None = val_kind a ≡ val_kind b → ⊥

-- the value is what is put over old where `when` holds, else old
pub record IsOverwritten (ns : List Node) (when : ℕ) (old new r : Val) : Type 0 where
  pub below : val_top r ≤ length ns
  pub kind : val_kind r ≡ val_kind old
  pub value : (choice v : ℕ → Bool) → Runs ns choice v → (x y : Cell) → Meets v old x → Meets v new y → Meets v r (if v when then put x y else x)

-- the value is 0 or null, or nothing
pub record IsBlank (ns : List Node) (kind : Kind) (r : Val) : Type 0 where
  pub below : val_top r ≤ length ns
  pub same : val_kind r ≡ kind
  pub value : (choice v : ℕ → Bool) → Runs ns choice v → Meets v r (blank kind)

-- the value is what is read at the target of a pointer
pub record IsLoaded (ns : List Node) (locations : List Location) (pointer : List Pair) (kind : Kind) (r : Val) : Type 0 where
  pub below : val_top r ≤ length ns
  pub same : val_kind r ≡ kind
  pub value : (choice v : ℕ → Bool) → Runs ns choice v → (ps : List Place) (t : ℕ) → MeetsAll v locations ps → Points v pointer t → Meets v r (load ps kind t)

-- where `live` holds, the value is written at the target of a pointer; else nothing is changed
pub record IsStored (ns : List Node) (live : ℕ) (pointer : List Pair) (val : Val) (old new : List Location) : Type 0 where
  pub below : locations_top new ≤ length ns
  pub same : kinds new ≡ kinds old
  pub value : (choice v : ℕ → Bool) → Runs ns choice v → (ps : List Place) (t : ℕ) (x : Cell) → MeetsAll v old ps → Points v pointer t → Meets v val x
      → MeetsAll v new (if v live then write ps t x else ps)

-- the store a where c holds, else the store b
pub record IsMerged (ns : List Node) (c : ℕ) (a b r : List Location) : Type 0 where
  pub below : locations_top r ≤ length ns
  pub same : kinds r ≡ kinds a
  pub value : (choice v : ℕ → Bool) → Runs ns choice v → (ps qs : List Place) → MeetsAll v a ps → MeetsAll v b qs → MeetsAll v r (if v c then ps else qs)

-- the kinds of the cells of a shape
abbrev pub shape_kinds : List ℕ → List Kind
shape_kinds [] = []
shape_kinds (w ∷ ws) = width_kind w ∷ shape_kinds ws

-- nothing has happened to the store yet
pub record IsFresh (ns : List Node) (shape : List ℕ) (r : List Location) : Type 0 where
  pub below : locations_top r ≤ length ns
  pub same : kinds r ≡ shape_kinds shape
  pub value : (choice v : ℕ → Bool) → Runs ns choice v → MeetsAll v r (fresh (shape_kinds shape))

-- a flag of a location holds also where `when` does, and all else is as before
pub record IsMarked (ns : List Node) (when place : ℕ) (flag : Flag) (old new : List Location) : Type 0 where
  pub below : locations_top new ≤ length ns
  pub same : kinds new ≡ kinds old
  pub value : (choice v : ℕ → Bool) → Runs ns choice v → (ps : List Place) → MeetsAll v old ps → MeetsAll v new (marked ps place flag (v when))

-- where the guard of a pair holds, what is found is put over by the cell of the pair's target
pub record IsRead (ns : List Node) (pair : Pair) (locations : List Location) (old new : Val) : Type 0 where
  pub below : val_top new ≤ length ns
  pub same : val_kind new ≡ val_kind old
  pub value : (choice v : ℕ → Bool) → Runs ns choice v → (ps : List Place) (x : Cell) → MeetsAll v locations ps → Meets v old x
      → Meets v new (if v pair.guard.at then put x (cell_at ps pair.target) else x)

-- where a gate holds, the value is written at a target
pub record IsWritten (ns : List Node) (when target : ℕ) (val : Val) (old new : List Location) : Type 0 where
  pub below : locations_top new ≤ length ns
  pub same : kinds new ≡ kinds old
  pub value : (choice v : ℕ → Bool) → Runs ns choice v → (ps : List Place) (x : Cell) → MeetsAll v old ps → Meets v val x
      → MeetsAll v new (if v when then write ps target x else ps)

-- where a gate holds, the value is written to a location, which stays where it is of another kind
pub record IsPut (ns : List Node) (when place : ℕ) (val : Val) (old new : List Location) : Type 0 where
  pub below : locations_top new ≤ length ns
  pub same : kinds new ≡ kinds old
  pub value : (choice v : ℕ → Bool) → Runs ns choice v → (ps : List Place) (x : Cell) → MeetsAll v old ps → Meets v val x
      → MeetsAll v new (if v when then change ps place x else ps)

-- the number that a cell has, 0 where it has none
abbrev pub number_in : Cell → ℕ
number_in (Number width n) = n
number_in _ = 0

-- the bits of the word of a location: they spell the number of its cell
pub record IsNumberAt (locations : List Location) (place : ℕ) (bits : List Gate) : Type 0 where
  pub below : top bits ≤ locations_top locations
  pub value : (v : ℕ → Bool) (ps : List Place) → MeetsAll v locations ps → number v bits ≡ number_in (nth_cell ps place)

-- the flags of a where c holds, else those of b
pub record IsMergedFlags (ns : List Node) (c : ℕ) (a b r : Flags) : Type 0 where
  pub below : flags_top r ≤ length ns
  pub value : (choice v : ℕ → Bool) → Runs ns choice v → (m n : Marks) → MeetsMarks v a m → MeetsMarks v b n → MeetsMarks v r (if v c then m else n)

-- the location a where c holds, else the location b
pub record IsMergedLocation (ns : List Node) (c : ℕ) (a b r : Location) : Type 0 where
  pub below : val_top r.val ≤ length ns
  pub flags_below : flags_top r.flags ≤ length ns
  pub kind : val_kind r.val ≡ val_kind a.val
  pub value : (choice v : ℕ → Bool) → Runs ns choice v → (p q : Place) → MeetsPlace v a p → MeetsPlace v b q → MeetsPlace v r (if v c then p else q)

-- the gate has the value of a flag of a location
pub record IsFlag (locations : List Location) (place : ℕ) (flag : Flag) (gate : ℕ) : Type 0 where
  pub below : gate < locations_top locations
  pub value : (v : ℕ → Bool) (ps : List Place) → MeetsAll v locations ps → v gate ≡ flag_at ps place flag

-- the gate has that value in every choice, false where there is no such location
pub record IsFlagAnywhere (ns : List Node) (locations : List Location) (place : ℕ) (flag : Flag) (gate : ℕ) : Type 0 where
  pub below : gate < length ns
  pub value : (choice v : ℕ → Bool) → Runs ns choice v → (ps : List Place) → MeetsAll v locations ps → v gate ≡ flag_at ps place flag

-- the store with a flag that holds also where b does at a target: null and what is past the end change nothing
abbrev pub marked_target : List Place → (target : ℕ) → Flag → Bool → List Place
marked_target ps zero f b = ps
marked_target ps (suc i) f b = marked ps i f b

-- a flag of a target holds also where `when` does
pub record IsMarkedTarget (ns : List Node) (when target : ℕ) (flag : Flag) (old new : List Location) : Type 0 where
  pub below : locations_top new ≤ length ns
  pub same : kinds new ≡ kinds old
  pub value : (choice v : ℕ → Bool) → Runs ns choice v → (ps : List Place) → MeetsAll v old ps → MeetsAll v new (marked_target ps target flag (v when))

-- a flag of the target of a pointer holds also where `live` does
pub record IsMarkedWhere (ns : List Node) (live : ℕ) (pointer : List Pair) (flag : Flag) (old new : List Location) : Type 0 where
  pub below : locations_top new ≤ length ns
  pub same : kinds new ≡ kinds old
  pub value : (choice v : ℕ → Bool) → Runs ns choice v → (ps : List Place) (t : ℕ) → MeetsAll v old ps → Points v pointer t
      → MeetsAll v new (marked_target ps t flag (v live))

-- the value is another one once more
pub record IsSame (a r : Val) : Type 0 where
  pub top : val_top r ≡ val_top a
  pub kind : val_kind r ≡ val_kind a
  pub value : (v : ℕ → Bool) (x : Cell) → Meets v a x → Meets v r x

-- the store is another one once more
pub record IsSameStore (old new : List Location) : Type 0 where
  pub top : locations_top new ≡ locations_top old
  pub same : kinds new ≡ kinds old
  pub value : (v : ℕ → Bool) (ps : List Place) → MeetsAll v old ps → MeetsAll v new ps

-- the kind of cells that a location is for
abbrev pub kind_is : CellKind → Kind
kind_is (Words width) = Numbers width
kind_is Pointers = PointerCells
kind_is NoCell = NoCells
