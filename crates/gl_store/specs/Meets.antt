-- When a guarded store is, for the values v of the gates, a concrete store.
use Rattle.std.specs.Prelude.{◌≡◌, ℕ, ◌+◌, max, Bool, List, [], ◌∷◌, length}
use Rattle.bit_net.specs.declared.nodes.Gate.{Gate}
use Rattle.bit_words.specs.Number.{number, top}
use Rattle.gl_sets.specs.Guards.{Points, guards_top}
use Rattle.gl_store.specs.declared.values.Val.{Val}
use Rattle.gl_store.specs.declared.values.Val.TheVariants.{Word, Set, Unit as Empty}
use Rattle.run_store.specs.declared.Flag.{Flag}
use Rattle.run_store.specs.declared.Flag.TheVariants.{Touched, Written, Allocated, Freed, Escaped}
use Rattle.gl_store.specs.declared.stores.Flags.{Flags}
use Rattle.gl_store.specs.declared.stores.Location.{Location}
use Rattle.run_store.specs.Concrete.{Cell, Number, Pointer, Nothing, Kind, Numbers, Pointers, NoCell, Marks, Place}

-- the kind of a value
abbrev pub val_kind : Val → Kind
val_kind (Word w) = Numbers (length w.bits.items)
val_kind (Set s) = Pointers
val_kind Empty = NoCell

-- one more than the greatest gate of a value
abbrev pub val_top : Val → ℕ
val_top (Word w) = top w.bits.items
val_top (Set s) = guards_top s.pairs.items
val_top Empty = 0

-- a word spells a number of its width
pub record MeetsNumber (v : ℕ → Bool) (bits : List Gate) (width n : ℕ) : Type 0 where
  pub wide : length bits ≡ width
  pub value : number v bits ≡ n

-- the value is this cell
abbrev pub Meets : (v : ℕ → Bool) → Val → Cell → Type 0
Meets v (Word w) (Number width n) = MeetsNumber v w.bits.items width n
Meets v (Set s) (Pointer t) = Points v s.pairs.items t
Meets v Empty Nothing = Unit {0}
Meets v _ _ = ⊥

-- the gates of the flags have the values of the marks
pub record MeetsMarks (v : ℕ → Bool) (flags : Flags) (marks : Marks) : Type 0 where
  pub touched : v flags.touched.at ≡ marks.touched
  pub written : v flags.written.at ≡ marks.written
  pub allocated : v flags.allocated.at ≡ marks.allocated
  pub freed : v flags.freed.at ≡ marks.freed
  pub escaped : v flags.escaped.at ≡ marks.escaped

pub record MeetsPlace (v : ℕ → Bool) (location : Location) (place : Place) : Type 0 where
  pub cell : Meets v location.val place.cell
  pub marks : MeetsMarks v location.flags place.marks

-- the guarded store is, location by location, the concrete store
abbrev pub MeetsAll : (v : ℕ → Bool) → List Location → List Place → Type 0
MeetsAll v [] [] = Unit {0}
MeetsAll v (l ∷ ls) (p ∷ ps) = MeetsPlace v l p × MeetsAll v ls ps
MeetsAll v _ _ = ⊥

-- the kinds of the locations
abbrev pub kinds : List Location → List Kind
kinds [] = []
kinds (l ∷ ls) = val_kind l.val ∷ kinds ls

-- one more than the greatest gate
abbrev pub flags_top : Flags → ℕ
flags_top f = max (max (max (f.touched.at + 1) (f.written.at + 1)) (max (f.allocated.at + 1) (f.freed.at + 1))) (f.escaped.at + 1)

unfoldable pub locations_top : List Location → ℕ
locations_top [] = 0
locations_top (l ∷ ls) = max (max (val_top l.val) (flags_top l.flags)) (locations_top ls)

-- the gate of a flag, and the flags with another gate for one of them
abbrev pub gate_of : Flags → Flag → ℕ
gate_of f Touched = f.touched.at
gate_of f Written = f.written.at
gate_of f Allocated = f.allocated.at
gate_of f Freed = f.freed.at
gate_of f Escaped = f.escaped.at

abbrev pub with_gate : Flags → Flag → Gate → Flags
with_gate f Touched g = record f { touched = g }
with_gate f Written g = record f { written = g }
with_gate f Allocated g = record f { allocated = g }
with_gate f Freed g = record f { freed = g }
with_gate f Escaped g = record f { escaped = g }
