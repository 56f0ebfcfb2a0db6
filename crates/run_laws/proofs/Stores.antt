-- Proper worlds stay proper where a cell is written, a mark is set, an event happens or a state changes.
use Rattle.std.proofs.Common.{◌≡◌, ℕ, zero, suc, ◌+◌, ◌≤◌, ◌<◌, Bool, true, false, List, [], ◌∷◌, ◌++◌, length, refl, sym, ap, subst, ◌∙◌, arith}
use Rattle.std.proofs.lemmas.Bool.{eqb-true}
use Rattle.std.specs.Prelude.{nat_eq, slice_index_or, if◌then◌else◌}
use Rattle.fsm_spec.specs.Table.{IsWhole}
use Rattle.run_store.specs.declared.Flag.{Flag}
use Rattle.run_store.specs.Concrete.{Cell, Number, Pointer, Nothing, Numbers, Place, kind_of, put, nth_cell, change, marked}
use Rattle.sum_rows.specs.declared.report.Event.{Event}
use Rattle.sc_world.specs.Source.{Source}
use Rattle.sc_world.specs.Layout.{Layout, Location, location}
use Rattle.sc_world.specs.World.{World, target_of, state_width, states}
use Rattle.run_laws.specs.Proper.{IsClosed, IsState, IsProper}
use Rattle.run_laws.proofs.Steps.{IsPlace, Inside, Rules}

length_change : (ps : List Place) (at : ℕ) (c : Cell) → length (change ps at c) ≡ length ps
length_change [] at c = refl
length_change (q ∷ ps) zero c = refl
length_change (q ∷ ps) (suc at) c = ap suc (length_change ps at c)

length_marked : (ps : List Place) (at : ℕ) (f : Flag) → length (marked ps at f true) ≡ length ps
length_marked [] at f = refl
length_marked (q ∷ ps) zero f = refl
length_marked (q ∷ ps) (suc at) f = ap suc (length_marked ps at f)

pub nth_marked : (ps : List Place) (at : ℕ) (f : Flag) (k : ℕ) → nth_cell (marked ps at f true) k ≡ nth_cell ps k
nth_marked [] at f k = refl
nth_marked (q ∷ ps) zero f zero = refl
nth_marked (q ∷ ps) zero f (suc k) = refl
nth_marked (q ∷ ps) (suc at) f zero = refl
nth_marked (q ∷ ps) (suc at) f (suc k) = nth_marked ps at f k

nth_other : (ps : List Place) (at : ℕ) (c : Cell) (k : ℕ) → (at ≡ k → ⊥) → nth_cell (change ps at c) k ≡ nth_cell ps k
nth_other [] at c k h = refl
nth_other (q ∷ ps) zero c zero h = absurd (h refl)
nth_other (q ∷ ps) zero c (suc k) h = refl
nth_other (q ∷ ps) (suc at) c zero h = refl
nth_other (q ∷ ps) (suc at) c (suc k) h = nth_other ps at c k (λ e. h (ap suc e))

-- pointers

if_within : (b : Bool) (m v w n k : ℕ) → target_of (if b then Number v n else Number w k) ≤ m
if_within true m v w n k = omega arith
if_within false m v w n k = omega arith

put_within : (m : ℕ) (old new : Cell) → target_of old ≤ m → target_of new ≤ m → target_of (put old new) ≤ m
put_within m (Number w n) (Number v k) h i = if_within (nat_eq w v) m v w k n
put_within m (Pointer q) (Pointer u) h i = i
put_within m (Number w n) (Pointer u) h i = h
put_within m (Number w n) Nothing h i = h
put_within m (Pointer q) (Number v k) h i = h
put_within m (Pointer q) Nothing h i = h
put_within m Nothing new h i = h

within : (ps : List Place) (at : ℕ) (c : Cell) (m k : ℕ) → target_of (nth_cell ps k) ≤ m → (0 < length ps → target_of c ≤ m)
    → target_of (nth_cell (change ps at c) k) ≤ m
within [] at c m k h i = h
within (q ∷ ps) zero c m zero h i = put_within m q.cell c h (i (omega arith))
within (q ∷ ps) zero c m (suc k) h i = h
within (q ∷ ps) (suc at) c m zero h i = h
within (q ∷ ps) (suc at) c m (suc k) h i = within ps at c m k h (λ _. i (omega arith))

-- kinds

if_kind : (b : Bool) (v w n k : ℕ) → nat_eq w v ≡ b → kind_of (if b then Number v n else Number w k) ≡ Numbers w
if_kind true v w n k e = ap Numbers (sym (eqb-true w v e))
if_kind false v w n k e = refl

put_kind : (old new : Cell) → kind_of (put old new) ≡ kind_of old
put_kind (Number w n) (Number v k) = if_kind (nat_eq w v) v w k n refl
put_kind (Pointer q) (Pointer u) = refl
put_kind (Number w n) (Pointer u) = refl
put_kind (Number w n) Nothing = refl
put_kind (Pointer q) (Number v k) = refl
put_kind (Pointer q) Nothing = refl
put_kind Nothing new = refl

kind_change : (ps : List Place) (at : ℕ) (c : Cell) (k : ℕ) → kind_of (nth_cell (change ps at c) k) ≡ kind_of (nth_cell ps k)
kind_change [] at c k = refl
kind_change (q ∷ ps) zero c zero = put_kind q.cell c
kind_change (q ∷ ps) zero c (suc k) = refl
kind_change (q ∷ ps) (suc at) c zero = refl
kind_change (q ∷ ps) (suc at) c (suc k) = kind_change ps at c k

-- states

put_state : (s : Source) (l : Location) (c : Cell) (k : ℕ) → k < states s → IsState s l c → IsState s l (put c (Number state_width k))
put_state s l c k less (m, is, known) =
    subst (λ d. IsState s l (put d (Number state_width k))) (sym is) (k, refl, λ _. less)

state_change : (s : Source) (l : Location) (ps : List Place) (at k j : ℕ) → k < states s → IsState s l (nth_cell ps j)
    → IsState s l (nth_cell (change ps at (Number state_width k)) j)
state_change s l [] at k j less h = h
state_change s l (q ∷ ps) zero k zero less h = put_state s l q.cell k less h
state_change s l (q ∷ ps) zero k (suc j) less h = h
state_change s l (q ∷ ps) (suc at) k zero less h = h
state_change s l (q ∷ ps) (suc at) k (suc j) less h = state_change s l ps at k j less h

module _ (s : Source) (p : Layout) where
  proper_put : (w : World) → IsProper s p w → (at : ℕ) → IsPlace p at → (c : Cell) → Inside p c
      → IsProper s p (record w { places = change w.places at c })
  proper_put w h at ha c hc = record {
    long = length_change w.places at c ∙ h.long;
    inside = λ k. within w.places at c (length p.locations) k (h.inside k) (λ pos. omega (arith, hc.within, pos, h.long));
    kinds = λ k less. kind_change w.places at c k ∙ h.kinds k less;
    states = λ k less.
        subst (IsState s (location p k)) (sym (nth_other w.places at c (length p.locations + k) (λ e. omega (arith, e, ha, less))))
        (h.states k less);
  }

  proper_mark : (w : World) → IsProper s p w → (at : ℕ) (f : Flag) → IsProper s p (record w { places = marked w.places at f true })
  proper_mark w h at f = record {
    long = length_marked w.places at f ∙ h.long;
    inside = λ k. subst (λ c. target_of c ≤ length p.locations) (sym (nth_marked w.places at f k)) (h.inside k);
    kinds = λ k less. ap kind_of (nth_marked w.places at f k) ∙ h.kinds k less;
    states = λ k less.
        subst (IsState s (location p k)) (sym (nth_marked w.places at f (length p.locations + k))) (h.states k less);
  }

  proper_event : (w : World) → IsProper s p w → (e : Event) → IsProper s p (record w { trace = w.trace ++ e ∷ [] })
  proper_event w h e = record { long = h.long; inside = h.inside; kinds = h.kinds; states = h.states }

  proper_state : (w : World) → IsProper s p w → (at k : ℕ) → k < states s
      → IsProper s p (record w { places = change w.places (length p.locations + at) (Number state_width k) })
  proper_state w h at k less = record {
    long = length_change w.places (length p.locations + at) (Number state_width k) ∙ h.long;
    inside = λ j. within w.places (length p.locations + at) (Number state_width k) (length p.locations) j (h.inside j) (λ pos. omega arith);
    kinds = λ j below. kind_change w.places (length p.locations + at) (Number state_width k) j ∙ h.kinds j below;
    states = λ j below.
        state_change s (location p j) w.places (length p.locations + at) k (length p.locations + j) less (h.states j below);
  }

  pub proper_rules : (temps : List Cell) → IsWhole s.machine → IsClosed p
      → ((k : ℕ) → target_of (slice_index_or temps k Nothing) ≤ length p.locations) → Rules s p temps (IsProper s p)
  proper_rules temps whole closed inside = record {
    whole = whole;
    closed = closed;
    temps_inside = λ k. record { within = omega (arith, inside k) };
    loads = λ w h at. record { within = omega (arith, h.inside at) };
    puts = proper_put;
    marks = proper_mark;
    events = proper_event;
    sets = proper_state;
  }

pub no_temps : (p : Layout) (k : ℕ) → target_of (slice_index_or [] k Nothing) ≤ length p.locations
no_temps p k = omega arith
