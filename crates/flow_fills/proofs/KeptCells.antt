-- What slots have behind a node that keeps cells, for one choice.
use Rattle.std.proofs.Common.{◌≡◌, ℕ, zero, suc, ◌+◌, ◌<◌, ◌≤◌, max, nat_eq, Bool, true, false, if◌then◌else◌, Option, Some, None, List, [], ◌∷◌, length, slice_get, slice_set, slice_index_or, refl, sym, ◌∙◌, ap, subst, arith}
use Rattle.std.proofs.lemmas.Bool.{eq-eqb, eqb-true}
use lib.Dec.{eqb-suc-zero, eqb-suc-suc, eqb-zero-suc}
use Rattle.bit_net.specs.declared.nodes.Node.{Node as Gates}
use Rattle.bit_net.specs.Runs.{Runs, Grown}
use Rattle.gl_store.specs.declared.values.Val.{Val}
use Rattle.gl_store.specs.declared.values.Val.TheVariants as val
use Rattle.gl_store.specs.Meets.{Meets}
use Rattle.gate_runs.specs.Stands.{told}
use Rattle.run_store.specs.Concrete.{Cell, Nothing}
use Rattle.run_laws.specs.Fits.{IsPlaceOf}
use Rattle.sc_world.specs.Source.{Source}
use Rattle.sc_world.specs.Layout.{Layout}
use Rattle.gate_copies.specs.declared.readings.Reading.{Reading}
use Rattle.gate_copies.specs.Readings.{readings_top}
use Rattle.gate_inits.specs.Inits.{HaveCells}
use Rattle.flow_graph.specs.Nodes.{Kept, temp, slot, keep_cells, with_at}
use Rattle.flow_graph.specs.Conditions.{Held, InTemp, InSlot}
use Rattle.flow_types.specs.Kinds as flow
use Rattle.flow_turns.specs.declared.temps.Slot.{Slot}
use Rattle.flow_turns.specs.declared.temps.Temps.{Temps}
use Rattle.flow_turns.specs.Kept.{val_at, is_kept, is_filled, cells_at, slots_top, HasKept, HasCells, HaveKept, HaveSome, HaveKinds, HasKind, is_for_void}
use Rattle.flow_fills.specs.Merged.{AreMerged}
use Rattle.flow_fills.specs.Slots.{KeepsIn, cells_after}

-- Lists.

with_at_same : (n : ℕ) (x : List Cell) (xs : List (List Cell)) → slice_index_or (with_at [] n x xs) n [] ≡ x
with_at_same zero x [] = refl
with_at_same zero x (y ∷ ys) = refl
with_at_same (suc n) x [] = with_at_same n x []
with_at_same (suc n) x (y ∷ ys) = with_at_same n x ys

with_at_other : (n m : ℕ) (x : List Cell) (xs : List (List Cell)) → nat_eq n m ≡ false → slice_index_or (with_at [] n x xs) m [] ≡ slice_index_or xs m []
with_at_other zero zero x xs e = absurd (cc)
with_at_other zero (suc m) x [] e = refl
with_at_other zero (suc m) x (y ∷ ys) e = refl
with_at_other (suc n) zero x [] e = refl
with_at_other (suc n) zero x (y ∷ ys) e = refl
with_at_other (suc n) (suc m) x [] e = with_at_other n m x [] (sym (eqb-suc-suc n m) ∙ e)
with_at_other (suc n) (suc m) x (y ∷ ys) e = with_at_other n m x ys (sym (eqb-suc-suc n m) ∙ e)

pub filled_set : (xs : List Slot) (k j : ℕ) (x : Slot) → k < length xs → is_filled (slice_set xs k x) j ≡ (if nat_eq k j then x.kept else is_filled xs j)
filled_set [] k j x low = absurd (omega (arith, low))
filled_set (y ∷ xs) zero zero x low = refl
filled_set (y ∷ xs) zero (suc j) x low = ap (λ c. if c then x.kept else is_filled xs j) (sym (eqb-zero-suc j))
filled_set (y ∷ xs) (suc k) zero x low = ap (λ c. if c then x.kept else y.kept) (sym (eqb-suc-zero k))
filled_set (y ∷ xs) (suc k) (suc j) x low = filled_set xs k j x (omega (arith, low)) ∙ ap (λ c. if c then x.kept else is_filled xs j) (sym (eqb-suc-suc k j))

pub cells_set : (xs : List Slot) (k j : ℕ) (x : Slot) → k < length xs → cells_at (slice_set xs k x) j ≡ (if nat_eq k j then x.cells.items else cells_at xs j)
cells_set [] k j x low = absurd (omega (arith, low))
cells_set (y ∷ xs) zero zero x low = refl
cells_set (y ∷ xs) zero (suc j) x low = ap (λ c. if c then x.cells.items else cells_at xs j) (sym (eqb-zero-suc j))
cells_set (y ∷ xs) (suc k) zero x low = ap (λ c. if c then x.cells.items else y.cells.items) (sym (eqb-suc-zero k))
cells_set (y ∷ xs) (suc k) (suc j) x low = cells_set xs k j x (omega (arith, low)) ∙ ap (λ c. if c then x.cells.items else cells_at xs j) (sym (eqb-suc-suc k j))

pub top_set : (xs : List Slot) (k : ℕ) (x : Slot) (n : ℕ) → slots_top xs ≤ n → readings_top x.cells.items ≤ n → slots_top (slice_set xs k x) ≤ n
unfolding slots_top
top_set [] k x n top low = omega arith
top_set (y ∷ xs) zero x n top low = omega arith
top_set (y ∷ xs) (suc k) x n top low = omega (arith, top_set xs k x n (omega arith) low)

pub filled_at : (xs : List Slot) (k : ℕ) (d : Slot) → k < length xs → (slice_index_or xs k d).kept ≡ is_filled xs k
filled_at [] k d low = absurd (omega (arith, low))
filled_at (x ∷ xs) zero d low = refl
filled_at (x ∷ xs) (suc k) d low = filled_at xs k d (omega (arith, low))

pub cells_are : (xs : List Slot) (k : ℕ) (d : Slot) → k < length xs → (slice_index_or xs k d).cells.items ≡ cells_at xs k
cells_are [] k d low = absurd (omega (arith, low))
cells_are (x ∷ xs) zero d low = refl
cells_are (x ∷ xs) (suc k) d low = cells_are xs k d (omega (arith, low))

pub cells_below : (xs : List Slot) (k : ℕ) (d : Slot) → k < length xs → readings_top (slice_index_or xs k d).cells.items ≤ slots_top xs
unfolding slots_top
cells_below [] k d low = absurd (omega (arith, low))
cells_below (x ∷ xs) zero d low = omega arith
cells_below (x ∷ xs) (suc k) d low = omega (arith, cells_below xs k d (omega (arith, low)))

-- What is kept in a slot.

module _ (ns : List Gates) (when m : ℕ) (cells made : List Reading) (old new : List Slot) where
  pub kept_in : length new ≡ length old → ((j : ℕ) → is_filled new j ≡ (if nat_eq m j then true else is_filled old j))
      → ((j : ℕ) → cells_at new j ≡ (if nat_eq m j then made else cells_at old j))
      → ((choice v : ℕ → Bool) → Runs ns choice v → (cs ds : List Cell) → HaveCells v (cells_at old m) cs → HaveCells v cells ds → HaveCells v made (cells_after (is_filled old m) (v when) cs ds))
      → KeepsIn ns when m cells old new
  kept_in many filled are has = record {
    many = many;
    filled = filled;
    others = λ j e. are j ∙ ap (λ (b : Bool). if b then made else cells_at old j) e;
    has = λ choice v runs cs ds hc hd.
        subst (λ (rs : List Reading). HaveCells v rs (cells_after (is_filled old m) (v when) cs ds))
        (sym (are m ∙ ap (λ (b : Bool). if b then made else cells_at old m) (eq-eqb m m refl))) (has choice v runs cs ds hc hd);
  }

pub first_kept : (ns : List Gates) (when m : ℕ) (cells : List Reading) (old new : List Slot) → is_filled old m ≡ false → length new ≡ length old
    → ((j : ℕ) → is_filled new j ≡ (if nat_eq m j then true else is_filled old j)) → ((j : ℕ) → cells_at new j ≡ (if nat_eq m j then cells else cells_at old j))
    → KeepsIn ns when m cells old new
first_kept ns when m cells old new none many filled are =
    kept_in ns when m cells cells old new many filled are
    (λ choice v runs cs ds hc hd. subst (λ (b : Bool). HaveCells v cells (cells_after b (v when) cs ds)) (sym none) hd)

pub kept_again : (ns : List Gates) (when m : ℕ) (cells made : List Reading) (old new : List Slot) → is_filled old m ≡ true → AreMerged ns when cells (cells_at old m) made
    → length new ≡ length old → ((j : ℕ) → is_filled new j ≡ (if nat_eq m j then true else is_filled old j)) → ((j : ℕ) → cells_at new j ≡ (if nat_eq m j then made else cells_at old j))
    → KeepsIn ns when m cells old new
kept_again ns when m cells made old new some merged many filled are =
    kept_in ns when m cells made old new many filled are
    (λ choice v runs cs ds hc hd. subst (λ (b : Bool). HaveCells v made (cells_after b (v when) cs ds)) (sym some) (merged.value choice v runs ds cs hd hc))

-- What temps and slots have behind the step.

module _ (v : ℕ → Bool) (p : Layout) (kinds : List flow.Kind) (ns : List Gates) (choice : ℕ → Bool) (runs : Runs ns choice v) (when m : ℕ) (cells : List Reading) (old new : Temps)
    (vals : new.vals ≡ old.vals) (sure : new.sure ≡ old.sure) (flags : new.kept ≡ old.kept) (keeps : KeepsIn ns when m cells old.slots.items new.slots.items) where
  val_same : (j : ℕ) → val_at new j ≡ val_at old j
  val_same j = ap (λ xs. slice_index_or xs.items j val.Unit) vals

  filled_here : is_filled new.slots.items m ≡ true
  filled_here = keeps.filled m ∙ ap (λ (b : Bool). if b then true else is_filled old.slots.items m) (eq-eqb m m refl)

  filled_other : (j : ℕ) → nat_eq m j ≡ false → is_filled new.slots.items j ≡ is_filled old.slots.items j
  filled_other j e = keeps.filled j ∙ ap (λ (b : Bool). if b then true else is_filled old.slots.items j) e

  temp_kept : (k k' : Kept) (j : ℕ) → temp k' j ≡ temp k j → HasKept v p kinds old k j → HasKept v p kinds new k' j
  temp_kept k k' j same h = record {
    kept = ap (λ xs. slice_index_or xs.items j false) flags ∙ h.kept;
    meets = subst (λ (c : Cell). Meets v (val_at new j) c) (sym same) (subst (λ (x : Val). Meets v x (temp k j)) (sym (val_same j)) h.meets);
    sure = ap (λ xs. told v xs.items j) sure ∙ h.sure;
    place = λ u is. subst (IsPlaceOf p u) (sym same) (h.place u is);
  }

  other_kept : (k k' : Kept) (j : ℕ) → nat_eq m j ≡ false → slot k' j ≡ slot k j → HasCells v old k j → HasCells v new k' j
  other_kept k k' j e same h = record {
    kept = filled_other j e ∙ h.kept;
    meets = subst (HaveCells v (cells_at new.slots.items j)) (sym same) (subst (λ (rs : List Reading). HaveCells v rs (slot k j)) (sym (keeps.others j e)) h.meets);
  }

  -- the step is made: the cells are the new ones
  pub kept_on : (k some : Kept) (a : List Cell) (f g : Held → Bool) → HaveKept v p kinds old k f → HaveSome v p kinds old some → HaveCells v cells a → v when ≡ true
      → ((j : ℕ) → g (InTemp j) ≡ false → f (InTemp j) ≡ false) → ((j : ℕ) → nat_eq m j ≡ false → g (InSlot j) ≡ false → f (InSlot j) ≡ false)
      → HaveKept v p kinds new (keep_cells m a k) g
  kept_on k some a f g h other good on asked asked_slots = record {
    temps = λ j free nonvoid. temp_kept k (keep_cells m a k) j refl (h.temps j (asked j free) nonvoid);
    slots = λ j free. by j (nat_eq m j) refl free;
  }
    where
      both : (b c : Bool) → c ≡ true → cells_after b c (slot some m) a ≡ a
      both true true e = refl
      both true false e = absurd (cc)
      both false c e = refl

      here : HasCells v new (keep_cells m a k) m
      here = record {
        kept = filled_here;
        meets = subst (HaveCells v (cells_at new.slots.items m)) (both (is_filled old.slots.items m) (v when) on ∙ sym (with_at_same m a k.slots))
            (keeps.has choice v runs (slot some m) a (other.cells m) good);
      }

      by : (j : ℕ) (b : Bool) → nat_eq m j ≡ b → g (InSlot j) ≡ false → HasCells v new (keep_cells m a k) j
      by j true e free = subst (HasCells v new (keep_cells m a k)) (eqb-true m j e) here
      by j false e free = other_kept k (keep_cells m a k) j e (with_at_other m j a k.slots e) (h.slots j (asked_slots j e free))

  -- where it is not made all is as before
  pub kept_off : (k : Kept) (f : Held → Bool) (d : List Cell) → HaveCells v cells d → v when ≡ false → HaveKept v p kinds old k f → HaveKept v p kinds new k f
  kept_off k f d given off h = record {
    temps = λ j free nonvoid. temp_kept k k j refl (h.temps j free nonvoid);
    slots = λ j free. by j (nat_eq m j) refl (h.slots j free);
  }
    where
      both : (b c : Bool) → b ≡ true → c ≡ false → cells_after b c (slot k m) d ≡ slot k m
      both true false e f = refl
      both true true e f = absurd (cc)
      both false c e f = absurd (cc)

      by : (j : ℕ) (b : Bool) → nat_eq m j ≡ b → HasCells v old k j → HasCells v new k j
      by j true e x =
          let at : m ≡ j = eqb-true m j e in
          let x' : HasCells v old k m = subst (HasCells v old k) (sym at) x in
          subst (HasCells v new k) at (record {
            kept = filled_here;
            meets = subst (HaveCells v (cells_at new.slots.items m)) (both (is_filled old.slots.items m) (v when) x'.kept off) (keeps.has choice v runs (slot k m) d x'.meets given);
          })
      by j false e x = other_kept k k j e refl x

  -- and something is there in any case
  pub some_after : (k : Kept) (d : List Cell) → HaveSome v p kinds old k → HaveCells v cells d
      → HaveSome v p kinds new (keep_cells m (cells_after (is_filled old.slots.items m) (v when) (slot k m) d) k)
  some_after k d h good = record {
    meets = λ j. subst (λ (x : Val). Meets v x (temp k j)) (sym (val_same j)) (h.meets j);
    place = λ j u is on. h.place j u is (sym (ap (λ xs. told v xs.items j) sure) ∙ on);
    cells = λ j. by j (nat_eq m j) refl;
  }
    where
      c : List Cell
      c = cells_after (is_filled old.slots.items m) (v when) (slot k m) d

      by : (j : ℕ) (b : Bool) → nat_eq m j ≡ b → HaveCells v (cells_at new.slots.items j) (slot (keep_cells m c k) j)
      by j true e =
          subst (λ (i : ℕ). HaveCells v (cells_at new.slots.items i) (slot (keep_cells m c k) i)) (eqb-true m j e)
          (subst (HaveCells v (cells_at new.slots.items m)) (sym (with_at_same m c k.slots)) (keeps.has choice v runs (slot k m) d (h.cells m) good))
      by j false e =
          subst (HaveCells v (cells_at new.slots.items j)) (sym (with_at_other m j c k.slots e))
          (subst (λ (rs : List Reading). HaveCells v rs (slot k j)) (sym (keeps.others j e)) (h.cells j))

-- the kinds of temps are as before
pub kinds_same : (s : Source) (kinds : flow.Kinds) (ns : List Gates) (when m : ℕ) (cells : List Reading) (old new : Temps) → new.vals ≡ old.vals → new.kept ≡ old.kept
    → KeepsIn ns when m cells old.slots.items new.slots.items → HaveKinds s kinds old → HaveKinds s kinds new
kinds_same s kinds ns when m cells old new vals flags keeps h = record {
  count = ap (λ xs. length xs.items) vals ∙ h.count;
  slots = keeps.many ∙ h.slots;
  each = λ j k is kept.
      subst (λ (x : Val). HasKind s k x) (sym (ap (λ xs. slice_index_or xs.items j val.Unit) vals))
      (h.each j k is (sym (ap (λ xs. slice_index_or xs.items j false) flags) ∙ kept));
}
