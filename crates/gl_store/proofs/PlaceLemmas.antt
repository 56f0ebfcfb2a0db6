-- Locations and places one by one: read, changed, and the greatest gate and the kinds of a list of locations.
use Rattle.std.proofs.Common.{◌≡◌, ℕ, zero, suc, ◌-◌, ◌<◌, ◌≤◌, Bool, true, false, List, [], ◌∷◌, length, get_or, set, if◌then◌else◌, refl, sym, ◌∙◌}
use Rattle.std.proofs.Common.{ap, subst, arith}
use Rattle.bit_net.specs.declared.nodes.Node.{Node}
use Rattle.bit_net.specs.Runs.{Grown}
use Rattle.bit_net.specs.declared.nodes.Gate.{Gate}
use Rattle.bit_words.specs.Number.{number, top}
use Rattle.gl_sets.specs.declared.pairs.Pair.{Pair}
use Rattle.gl_store.specs.declared.values.Val.TheVariants.{Set, Unit as Empty}
use Rattle.gl_sets.specs.declared.sets.Set.{Set as Sets}
use Rattle.gl_store.specs.declared.values.Val.{Val}
use Rattle.gl_store.specs.declared.stores.Flags.{Flags}
use Rattle.gl_store.specs.declared.stores.Location.{Location}
use Rattle.run_store.specs.Concrete.{Cell, Number, Pointer, Nothing, Place, put, nth_cell, cell_at, change, write}
use Rattle.gl_store.specs.Meets.{Meets, MeetsMarks, MeetsAll, val_kind, val_top, kinds, flags_top, locations_top}
use Rattle.gl_store.specs.Steps.{IsNumberAt, IsOverwritten, IsPut, IsRead, IsWritten, number_in}

pub locations_top-at : (ls : List Location) (i : ℕ) (d : Location) → i < length ls → val_top (get_or ls i d).val ≤ locations_top ls
unfolding locations_top
locations_top-at [] i d h = absurd (omega arith)
locations_top-at (l ∷ ls) zero d h = omega arith
locations_top-at (l ∷ ls) (suc i) d h = let low : i < length ls = omega arith in omega (arith, locations_top-at ls i d low)

pub flags_top-at : (ls : List Location) (i : ℕ) (d : Location) → i < length ls → flags_top (get_or ls i d).flags ≤ locations_top ls
unfolding locations_top
flags_top-at [] i d h = absurd (omega arith)
flags_top-at (l ∷ ls) zero d h = omega arith
flags_top-at (l ∷ ls) (suc i) d h = let low : i < length ls = omega arith in omega (arith, flags_top-at ls i d low)

pub locations_top-set : (ls : List Location) (i : ℕ) (l : Location) (n : ℕ) → locations_top ls ≤ n → val_top l.val ≤ n → flags_top l.flags ≤ n
    → locations_top (set ls i l) ≤ n
unfolding locations_top
locations_top-set [] i l n h a b = h
locations_top-set (k ∷ ls) zero l n h a b = omega arith
locations_top-set (k ∷ ls) (suc i) l n h a b =
    let rest : locations_top ls ≤ n = omega arith in
    omega (arith, locations_top-set ls i l n rest a b)

pub kinds-set : (ls : List Location) (i : ℕ) (d l : Location) → i < length ls → val_kind l.val ≡ val_kind (get_or ls i d).val → kinds (set ls i l) ≡ kinds ls
kinds-set [] i d l low h = refl
kinds-set (k ∷ ls) zero d l low h = ap (λ x. x ∷ kinds ls) h
kinds-set (k ∷ ls) (suc i) d l low h = let low' : i < length ls = omega arith in ap (λ xs. val_kind k.val ∷ xs) (kinds-set ls i d l low' h)

-- what a location and its place have
pub Meets-at : (v : ℕ → Bool) (ls : List Location) (ps : List Place) (i : ℕ) (d : Location) → i < length ls → MeetsAll v ls ps
    → Meets v (get_or ls i d).val (nth_cell ps i)
Meets-at v [] [] i d low h = absurd (omega arith)
Meets-at v (l ∷ ls) (p ∷ ps) zero d low h = h.0.cell
Meets-at v (l ∷ ls) (p ∷ ps) (suc i) d low h = let low' : i < length ls = omega arith in Meets-at v ls ps i d low' h.1
Meets-at v _ _ i d low h = absurd h

-- past the end
nth_cell-past : (v : ℕ → Bool) (ls : List Location) (ps : List Place) (i : ℕ) → length ls ≤ i → MeetsAll v ls ps → nth_cell ps i ≡ Nothing
nth_cell-past v [] [] i past h = refl
nth_cell-past v (l ∷ ls) (p ∷ ps) zero past h = absurd (omega arith)
nth_cell-past v (l ∷ ls) (p ∷ ps) (suc i) past h = let past' : length ls ≤ i = omega arith in nth_cell-past v ls ps i past' h.1
nth_cell-past v _ _ i past h = absurd h

change-past : (v : ℕ → Bool) (ls : List Location) (ps : List Place) (i : ℕ) (x : Cell) → length ls ≤ i → MeetsAll v ls ps → change ps i x ≡ ps
change-past v [] [] i x past h = refl
change-past v (l ∷ ls) (p ∷ ps) zero x past h = absurd (omega arith)
change-past v (l ∷ ls) (p ∷ ps) (suc i) x past h = let past' : length ls ≤ i = omega arith in ap (λ qs. p ∷ qs) (change-past v ls ps i x past' h.1)
change-past v _ _ i x past h = absurd h

-- one location is changed, and one place
MeetsAll-change : (v : ℕ → Bool) (ls : List Location) (ps : List Place) (i : ℕ) (d l : Location) (x : Cell) → i < length ls
    → l.flags ≡ (get_or ls i d).flags → MeetsAll v ls ps
    → Meets v l.val (put (nth_cell ps i) x) → MeetsAll v (set ls i l) (change ps i x)
MeetsAll-change v [] [] i d l x low f h m = absurd (omega arith)
MeetsAll-change v (k ∷ ls) (p ∷ ps) zero d l x low f h m = (record { cell = m; marks = subst (λ (g : Flags). MeetsMarks v g p.marks) (sym f) h.0.marks }, h.1)
MeetsAll-change v (k ∷ ls) (p ∷ ps) (suc i) d l x low f h m = let low' : i < length ls = omega arith in (h.0, MeetsAll-change v ls ps i d l x low' f h.1 m)
MeetsAll-change v _ _ i d l x low f h m = absurd h

-- one location is changed, and no place
MeetsAll-same : (v : ℕ → Bool) (ls : List Location) (ps : List Place) (i : ℕ) (d l : Location) → i < length ls → l.flags ≡ (get_or ls i d).flags
    → MeetsAll v ls ps
    → Meets v l.val (nth_cell ps i) → MeetsAll v (set ls i l) ps
MeetsAll-same v [] [] i d l low f h m = absurd (omega arith)
MeetsAll-same v (k ∷ ls) (p ∷ ps) zero d l low f h m = (record { cell = m; marks = subst (λ (g : Flags). MeetsMarks v g p.marks) (sym f) h.0.marks }, h.1)
MeetsAll-same v (k ∷ ls) (p ∷ ps) (suc i) d l low f h m = let low' : i < length ls = omega arith in (h.0, MeetsAll-same v ls ps i d l low' f h.1 m)
MeetsAll-same v _ _ i d l low f h m = absurd h

put_nothing : (x : Cell) → put x Nothing ≡ x
put_nothing (Number w n) = refl
put_nothing (Pointer t) = refl
put_nothing Nothing = refl

-- a target that is not null
cell_at-target : (ps : List Place) (t : ℕ) → (t ≡ 0 → ⊥) → cell_at ps t ≡ nth_cell ps (t - 1)
cell_at-target ps zero h = absurd (h refl)
cell_at-target ps (suc i) h = ap (nth_cell ps) (let e : i ≡ suc i - 1 = omega arith in e)

write-target : (ps : List Place) (t : ℕ) (x : Cell) → (t ≡ 0 → ⊥) → write ps t x ≡ change ps (t - 1) x
write-target ps zero x h = absurd (h refl)
write-target ps (suc i) x h = ap (λ k. change ps k x) (let e : i ≡ suc i - 1 = omega arith in e)

-- null, or past the end
cell_at-none : (v : ℕ → Bool) (ls : List Location) (ps : List Place) (t : ℕ) → (0 < t → length ls < t) → MeetsAll v ls ps → cell_at ps t ≡ Nothing
cell_at-none v ls ps zero h m = refl
cell_at-none v ls ps (suc i) h m = let past : length ls ≤ i = omega (arith, h (omega arith)) in nth_cell-past v ls ps i past m

write-none : (v : ℕ → Bool) (ls : List Location) (ps : List Place) (t : ℕ) (x : Cell) → (0 < t → length ls < t) → MeetsAll v ls ps → write ps t x ≡ ps
write-none v ls ps zero x h m = refl
write-none v ls ps (suc i) x h m = let past : length ls ≤ i = omega (arith, h (omega arith)) in change-past v ls ps i x past m

either_way : {A : Type 0} (b : Bool) (x z : A) → z ≡ x → x ≡ (if b then z else x)
either_way true x z e = sym e
either_way false x z e = refl

pub read_none : (ns : List Node) (pair : Pair) (ls : List Location) (old : Val) → (0 < pair.target → length ls < pair.target)
    → val_top old ≤ length ns → IsRead ns pair ls old old
read_none ns pair ls old h below = record {
  below = below;
  same = refl;
  value = λ choice v r ps x m hx.
      subst (Meets v old) (either_way (v pair.guard.at) x (put x (cell_at ps pair.target)) (ap (put x) (cell_at-none v ls ps pair.target h m) ∙ put_nothing x)) hx;
}

pub read_there : (ns : List Node) (pair : Pair) (ls : List Location) (d : Location) (old new : Val) → (pair.target ≡ 0 → ⊥) → pair.target - 1 < length ls
    → IsOverwritten ns pair.guard.at old (get_or ls (pair.target - 1) d).val new → IsRead ns pair ls old new
read_there ns pair ls d old new some low s = record {
  below = s.below;
  same = s.kind;
  value = λ choice v r ps x m hx.
      subst (λ (c : Cell). Meets v new (if v pair.guard.at then put x c else x)) (sym (cell_at-target ps pair.target some))
      (s.value choice v r x (nth_cell ps (pair.target - 1)) hx (Meets-at v ls ps (pair.target - 1) d low m));
}

pub written_none : (ns : List Node) (when target : ℕ) (val : Val) (ls : List Location) → (0 < target → length ls < target)
    → locations_top ls ≤ length ns → IsWritten ns when target val ls ls
written_none ns when target val ls h below = record {
  below = below;
  same = refl;
  value = λ choice v r ps x m hx. subst (MeetsAll v ls) (either_way (v when) ps (write ps target x) (write-none v ls ps target x h m)) m;
}

pub written_there : (old ns : List Node) (when target : ℕ) (val : Val) (ls ls' : List Location) (d l : Location) → Grown old ns → (target ≡ 0 → ⊥)
    → target - 1 < length ls → locations_top ls ≤ length old
    → ls' ≡ set ls (target - 1) l → l.flags ≡ (get_or ls (target - 1) d).flags → IsOverwritten ns when (get_or ls (target - 1) d).val val l.val
    → IsWritten ns when target val ls ls'
written_there old ns when target val ls ls' d l g some low below e f s = record {
  below = rw e (locations_top-set ls (target - 1) l (length ns) (omega (arith, g.longer)) s.below
      (let flags : flags_top l.flags ≤ length ns = omega (arith, ap flags_top f, flags_top-at ls (target - 1) d low, below, g.longer) in flags));
  same = ap kinds e ∙ kinds-set ls (target - 1) d l low s.kind;
  value = λ choice v r ps x m hx.
      subst (λ (k : List Location). MeetsAll v k (if v when then write ps target x else ps)) (sym e)
      (by choice v ps x m (v when) (s.value choice v r (nth_cell ps (target - 1)) x (Meets-at v ls ps (target - 1) d low m) hx));
}
  where
    by : (choice v : ℕ → Bool) (ps : List Place) (x : Cell) → MeetsAll v ls ps → (b : Bool)
        → Meets v l.val (if b then put (nth_cell ps (target - 1)) x else nth_cell ps (target - 1))
        → MeetsAll v (set ls (target - 1) l) (if b then write ps target x else ps)
    by choice v ps x m true h = subst (MeetsAll v (set ls (target - 1) l)) (sym (write-target ps target x some)) (MeetsAll-change v ls ps (target - 1) d l x low f m h)
    by choice v ps x m false h = MeetsAll-same v ls ps (target - 1) d l low f m h

-- a value put to a location, where there is one
pub put_past : (ns : List Node) (when at : ℕ) (val : Val) (ls : List Location) → length ls ≤ at → locations_top ls ≤ length ns → IsPut ns when at val ls ls
put_past ns when at val ls past below = record {
  below = below;
  same = refl;
  value = λ choice v r ps x m hx. subst (MeetsAll v ls) (either_way (v when) ps (change ps at x) (change-past v ls ps at x past m)) m;
}

pub put_there : (old ns : List Node) (when at : ℕ) (val : Val) (ls ls' : List Location) (d l : Location) → Grown old ns → at < length ls → locations_top ls ≤ length old
    → ls' ≡ set ls at l → l.flags ≡ (get_or ls at d).flags → IsOverwritten ns when (get_or ls at d).val val l.val → IsPut ns when at val ls ls'
put_there old ns when at val ls ls' d l g low below e f s = record {
  below = rw e (locations_top-set ls at l (length ns) (omega (arith, g.longer)) s.below
      (let flags : flags_top l.flags ≤ length ns = omega (arith, ap flags_top f, flags_top-at ls at d low, below, g.longer) in flags));
  same = ap kinds e ∙ kinds-set ls at d l low s.kind;
  value = λ choice v r ps x m hx.
      subst (λ (k : List Location). MeetsAll v k (if v when then change ps at x else ps)) (sym e)
      (by v ps x m (v when) (s.value choice v r (nth_cell ps at) x (Meets-at v ls ps at d low m) hx));
}
  where
    by : (v : ℕ → Bool) (ps : List Place) (x : Cell) → MeetsAll v ls ps → (b : Bool) → Meets v l.val (if b then put (nth_cell ps at) x else nth_cell ps at)
        → MeetsAll v (set ls at l) (if b then change ps at x else ps)
    by v ps x m true h = MeetsAll-change v ls ps at d l x low f m h
    by v ps x m false h = MeetsAll-same v ls ps at d l low f m h

-- the bits of a word
top-none : top [] ≡ 0
unfolding top
top-none = refl

number-none : (v : ℕ → Bool) → number v [] ≡ 0
unfolding number
number-none v = refl

set_bits : (s : Sets) (v : ℕ → Bool) (x : Cell) → Meets v (Set s) x → number v [] ≡ number_in x
set_bits s v (Number width n) h = absurd h
set_bits s v (Pointer t) h = number-none v
set_bits s v Nothing h = absurd h

pub bits_set : (val : Val) (s : Sets) → val ≡ Set s → (v : ℕ → Bool) (x : Cell) → Meets v val x → number v [] ≡ number_in x
bits_set val s e v x h = set_bits s v x (subst (λ (k : Val). Meets v k x) e h)

empty_bits : (v : ℕ → Bool) (x : Cell) → Meets v Empty x → number v [] ≡ number_in x
empty_bits v (Number width n) h = absurd h
empty_bits v (Pointer t) h = absurd h
empty_bits v Nothing h = number-none v

pub bits_empty : (val : Val) → val ≡ Empty → (v : ℕ → Bool) (x : Cell) → Meets v val x → number v [] ≡ number_in x
bits_empty val e v x h = empty_bits v x (subst (λ (k : Val). Meets v k x) e h)

pub no_bits : (bits : List Gate) (n : ℕ) → bits ≡ [] → top bits ≤ n
no_bits bits n e = omega (arith, ap top e, top-none)

pub number_there : (ls : List Location) (at : ℕ) (d : Location) (bits : List Gate) → at < length ls → top bits ≤ val_top (get_or ls at d).val
    → ((v : ℕ → Bool) (x : Cell) → Meets v (get_or ls at d).val x → number v bits ≡ number_in x) → IsNumberAt ls at bits
number_there ls at d bits low below h = record {
  below = omega (arith, locations_top-at ls at d low, below);
  value = λ v ps m. h v (nth_cell ps at) (Meets-at v ls ps at d low m);
}

pub number_past : (ls : List Location) (at : ℕ) (bits : List Gate) → length ls ≤ at → bits ≡ [] → IsNumberAt ls at bits
number_past ls at bits past e = record {
  below = no_bits bits (locations_top ls) e;
  value = λ v ps m. ap (number v) e ∙ number-none v ∙ sym (ap number_in (nth_cell-past v ls ps at past m));
}
