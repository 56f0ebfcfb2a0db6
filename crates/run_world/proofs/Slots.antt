-- One slot of a store: read, changed, and past the end.
use Rattle.std.proofs.Common.{◌≡◌, ℕ, zero, suc, ◌<◌, ◌≤◌, Bool, true, false, List, [], ◌∷◌, length, map, slice_index_or, slice_set, refl, sym, ap, arith}
use Rattle.run_store.specs.declared.Flag.{Flag}
use Rattle.run_store.specs.Concrete.{Cell, Nothing, Place, nth_cell, flag_of, flag_at, put, change, with_flag, marked}
use Rattle.run_world.specs.declared.world.Slot.{Slot}
use Rattle.run_world.specs.Seen.{cell, marks, place}

pub cell_there : (ss : List Slot) (i : ℕ) (s : Slot) → i < length ss → s ≡ slice_index_or ss i s → nth_cell (map place ss) i ≡ cell s.value
cell_there [] i s low is = absurd (omega arith)
cell_there (x ∷ ss) zero s low is = ap (λ y. cell y.value) (sym is)
cell_there (x ∷ ss) (suc i) s low is = let low' : i < length ss = omega arith in cell_there ss i s low' is

pub cell_past : (ss : List Slot) (i : ℕ) → length ss ≤ i → nth_cell (map place ss) i ≡ Nothing
cell_past [] i past = refl
cell_past (x ∷ ss) zero past = absurd (omega arith)
cell_past (x ∷ ss) (suc i) past = let past' : length ss ≤ i = omega arith in cell_past ss i past'

pub flag_there : (ss : List Slot) (i : ℕ) (f : Flag) (s : Slot) (b : Bool) → i < length ss → s ≡ slice_index_or ss i s → b ≡ flag_of (marks s.marks) f
    → flag_at (map place ss) i f ≡ b
flag_there [] i f s b low is has = absurd (omega arith)
flag_there (x ∷ ss) zero f s b low is has = rw (has, is) refl
flag_there (x ∷ ss) (suc i) f s b low is has = let low' : i < length ss = omega arith in flag_there ss i f s b low' is has

pub flag_past : (ss : List Slot) (i : ℕ) (f : Flag) → length ss ≤ i → flag_at (map place ss) i f ≡ false
flag_past [] i f past = refl
flag_past (x ∷ ss) zero f past = absurd (omega arith)
flag_past (x ∷ ss) (suc i) f past = let past' : length ss ≤ i = omega arith in flag_past ss i f past'

pub put_there : (ss : List Slot) (i : ℕ) (c : Cell) (was new : Slot) → i < length ss → was ≡ slice_index_or ss i was
    → cell new.value ≡ put (cell was.value) c → new.marks ≡ was.marks → change (map place ss) i c ≡ map place (slice_set ss i new)
put_there [] i c was new low is value same = absurd (omega arith)
put_there (x ∷ ss) zero c was new low is value same =
    let old : was ≡ x = is in rw (value, same, old) refl
put_there (x ∷ ss) (suc i) c was new low is value same =
    let low' : i < length ss = omega arith in ap (λ ps. place x ∷ ps) (put_there ss i c was new low' is value same)

pub put_past : (ss : List Slot) (i : ℕ) (c : Cell) → length ss ≤ i → change (map place ss) i c ≡ map place ss
put_past [] i c past = refl
put_past (x ∷ ss) zero c past = absurd (omega arith)
put_past (x ∷ ss) (suc i) c past = let past' : length ss ≤ i = omega arith in ap (λ ps. place x ∷ ps) (put_past ss i c past')

pub mark_there : (ss : List Slot) (i : ℕ) (f : Flag) (was new : Slot) → i < length ss → was ≡ slice_index_or ss i was
    → marks new.marks ≡ with_flag (marks was.marks) f true → new.value ≡ was.value → marked (map place ss) i f true ≡ map place (slice_set ss i new)
mark_there [] i f was new low is mark same = absurd (omega arith)
mark_there (x ∷ ss) zero f was new low is mark same =
    let old : was ≡ x = is in rw (mark, same, old) refl
mark_there (x ∷ ss) (suc i) f was new low is mark same =
    let low' : i < length ss = omega arith in ap (λ ps. place x ∷ ps) (mark_there ss i f was new low' is mark same)

pub mark_past : (ss : List Slot) (i : ℕ) (f : Flag) → length ss ≤ i → marked (map place ss) i f true ≡ map place ss
mark_past [] i f past = refl
mark_past (x ∷ ss) zero f past = absurd (omega arith)
mark_past (x ∷ ss) (suc i) f past = let past' : length ss ≤ i = omega arith in ap (λ ps. place x ∷ ps) (mark_past ss i f past')
