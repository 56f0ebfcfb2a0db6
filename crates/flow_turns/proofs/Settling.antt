-- A step that a node makes, what it keeps and tells, and where it goes on: what holds before the node holds behind it.
use Rattle.std.proofs.Common.{◌≡◌, ℕ, zero, suc, ◌<◌, nat_eq, Bool, true, false, if◌then◌else◌, Option, Some, None, List, [], ◌∷◌, length, slice_get, slice_index_or, Result, Ok, Err, refl, sym, ◌∙◌, ap, subst, arith}
use Rattle.std.proofs.lemmas.Bool.{eq-eqb, eqb-true}
use lib.Dec.{eqb-suc-suc}
use Rattle.bit_net.specs.declared.nodes.Node.{Node as Gates}
use Rattle.bit_net.specs.Runs.{Runs}
use Rattle.gl_store.specs.declared.stores.Location.{Location}
use Rattle.gl_store.specs.declared.values.Val.{Val}
use Rattle.gl_store.specs.Meets.{Meets, MeetsAll}
use Rattle.gate_inits.specs.Inits.{HaveCells}
use Rattle.gate_runs.specs.declared.ends.Ends.{Ends}
use Rattle.gate_runs.specs.Standing.{Standing, On, Over, stand, is_bad}
use Rattle.gate_runs.specs.Stands.{Stands, Does, HasBegun, told}
use Rattle.run_store.specs.Concrete.{Cell, Nothing, Place, put}
use Rattle.run_laws.specs.Fits.{IsPlaceOf}
use Rattle.sc_world.specs.Tree.{Ty}
use Rattle.sc_world.specs.Source.{Source}
use Rattle.sc_world.specs.Layout.{Layout}
use Rattle.sc_world.specs.World.{World, Run, Ended, Error, Inner, Aside}
use Rattle.flow_graph.specs.Nodes.{Node, Kept, temp, slot, keep, with_at}
use Rattle.flow_graph.specs.Conditions.{Held, InTemp, InSlot}
use Rattle.flow_types.specs.Kinds as flow
use Rattle.flow_stages.specs.Stage.{Choice, View, Stage, At, Out, Over as IsOver, is_at}
use Rattle.flow_stages.specs.Laws as law
use Rattle.flow_turns.specs.declared.steps.Made.{Made}
use Rattle.flow_turns.specs.declared.temps.Slot.{Slot}
use Rattle.flow_turns.specs.declared.temps.Temps.{Temps}
use Rattle.flow_turns.specs.Kept.{val_at, is_kept, is_filled, HasKept, HasCells, HaveKept, HaveSome, HasKind, is_for_void, cells_at}
use Rattle.flow_turns.specs.Turns.{Keeps}
use Rattle.flow_turns.specs.Steps.{IsGood}
use Rattle.flow_turns.proofs.Past.{meets_kind, put_same}

-- What is kept.

with_at_same : (n : ℕ) (x : Cell) (xs : List Cell) → slice_index_or (with_at Nothing n x xs) n Nothing ≡ x
with_at_same zero x [] = refl
with_at_same zero x (y ∷ ys) = refl
with_at_same (suc n) x [] = with_at_same n x []
with_at_same (suc n) x (y ∷ ys) = with_at_same n x ys

with_at_other : (n m : ℕ) (x : Cell) (xs : List Cell) → nat_eq n m ≡ false → slice_index_or (with_at Nothing n x xs) m Nothing ≡ slice_index_or xs m Nothing
with_at_other zero zero x xs e = absurd (cc)
with_at_other zero (suc m) x [] e = refl
with_at_other zero (suc m) x (y ∷ ys) e = refl
with_at_other (suc n) zero x [] e = refl
with_at_other (suc n) zero x (y ∷ ys) e = refl
with_at_other (suc n) (suc m) x [] e = with_at_other n m x [] (sym (eqb-suc-suc n m) ∙ e)
with_at_other (suc n) (suc m) x (y ∷ ys) e = with_at_other n m x ys (sym (eqb-suc-suc n m) ∙ e)

-- Where a step stands.

module _ {A : Type 0} (v : ℕ → Bool) (ns : List Gates) (choice : ℕ → Bool) (on : ℕ) (begun ends : Ends) (old new : List Location) (m : Run A) (Good : A → Type 0) (runs : Runs ns choice v) (began : HasBegun ns on begun) (d : Does v old begun m new ends Good) where
  stands_on : (w : World) → MeetsAll v old w.places → v on ≡ true → Stands v new ends Good (stand (m w))
  stands_on w stored live = d.does (On tt w) (record {
    store = stored;
    tells = record {
      live = ap v began.live ∙ live;
      asides = λ k low. began.asides choice v runs k;
      bads = λ k low. began.bads choice v runs k;
    };
    given = tt;
    good = tt;
    is = refl;
  })

  stands_off : (w : World) → MeetsAll v old w.places → v on ≡ false → (let s : Standing A = Over None w in Stands v new ends Good s)
  stands_off w stored live = d.does (Over None w) (record {
    store = stored;
    tells = record {
      live = ap v began.live ∙ live;
      asides = λ k low. began.asides choice v runs k;
      bads = λ k low. began.bads choice v runs k;
    };
    given = tt;
    good = tt;
    is = tt;
  })

  -- something good is there in any case
  pub is_given : (ps : List Place) → MeetsAll v old ps → (a : A) × Good a
  is_given ps stored = by (v on) refl
    where
      w : World
      w = record { places = ps; trace = [] }

      by : (b : Bool) → v on ≡ b → (a : A) × Good a
      by true e = let h = stands_on w stored e in (h.given, h.good)
      by false e = let h = stands_off w stored e in (h.given, h.good)

  bad_is : (l : ℕ) (e : Ended) → is_bad l (Some e) ≡ is_at l e
  bad_is l (Error at) = refl
  bad_is l (Inner at) = refl
  bad_is l (Aside r) = refl

  pub lands : (count : ℕ) (x y : View) → length ends.bads.items ≡ count → ((ps : List Place) → x.Stored ps → MeetsAll v old ps) → ((ps : List Place) → MeetsAll v new ps → y.Stored ps)
      → law.DoesStep count m (v on) (v ends.live.at) (told v ends.bads.items) x y Good
  lands count x y each from to = record {
    acts = λ w stored live. at (m w) (stands_on w (from w.places stored) live);
    rests = λ off ps stored. to ps (stands_off (record { places = ps; trace = [] }) (from ps stored) off).store;
  }
    where
      at : (r : Result A Ended × World) → Stands v new ends Good (stand r) → law.Lands count (v ends.live.at) (told v ends.bads.items) y Good r
      at (Ok a, w) h = (h.tells.live, (λ l low. h.tells.bads l (subst (λ n. l < n) (sym each) low)), to w.places h.store, subst Good (sym h.is) h.good)
      at (Err e, w) h = (h.tells.live, (λ l low. h.tells.bads l (subst (λ n. l < n) (sym each) low) ∙ bad_is l e), to w.places h.store)

-- some store is met
pub has_store : (c : Choice) (nodes : List Node) (count j : ℕ) (x : View) → Stage c nodes count j x → (ps : List Place) × x.Stored ps
has_store c nodes count j x (At at k w h) = (w.places, h.store)
has_store c nodes count j x (Out r w h) = (w.places, h.store)
has_store c nodes count j x (IsOver e w ps h) = (ps, h.store)

get_some : {A : Type 0} (xs : List A) (k : ℕ) → k < length xs → (x : A) × (slice_get xs k ≡ Some x)
get_some [] k low = absurd (omega arith)
get_some (x ∷ xs) zero low = (x, refl)
get_some (x ∷ xs) (suc k) low = get_some xs k (omega arith)

abbrev pub cell_after : (was on : Bool) (old new : Cell) → Cell
cell_after was on old new = if was then (if on then put old new else old) else new

abbrev sure_after : (was on old new : Bool) → Bool
sure_after was on old new = if was then (if on then new else old) else new

at_true : (b c : Bool) (P : Bool → Type 0) → b ≡ c → P b → P c
at_true b c P e h = subst P e h

-- What temps have behind the step, for one choice.
module _ (s : Source) (p : Layout) (kinds : flow.Kinds) (ns : List Gates) (choice v : ℕ → Bool) (runs : Runs ns choice v) (when m : ℕ) (made : Made) (old new : Temps) (keeps : Keeps ns when m made.val made.sure.at old new)
    (low : m < length kinds.temps) (each : (j : ℕ) (k : flow.Kind) → slice_get kinds.temps j ≡ Some k → is_kept old j ≡ true → HasKind s k (val_at old j))
    (kind : (k : flow.Kind) → slice_get kinds.temps m ≡ Some k → HasKind s k made.val) where
  meets_after : (x y : Cell) → Meets v (val_at old m) x → Meets v made.val y → Meets v (val_at new m) (cell_after (is_kept old m) (v when) x y)
  meets_after x y hx hy = by (is_kept old m) refl
    where
      by : (b : Bool) → is_kept old m ≡ b → Meets v (val_at new m) (cell_after b (v when) x y)
      by true e = (keeps.again e).value choice v runs x y hx hy
      by false e = subst (λ (z : Val). Meets v z y) (sym (keeps.first e)) hy

  sure_is : told v new.sure.items m ≡ sure_after (is_kept old m) (v when) (told v old.sure.items m) (v made.sure.at)
  sure_is = keeps.sures choice v runs m ∙ ap (λ (b : Bool). if b then sure_after (is_kept old m) (v when) (told v old.sure.items m) (v made.sure.at) else told v old.sure.items m) (eq-eqb m m refl)

  sure_other : (j : ℕ) → nat_eq m j ≡ false → told v new.sure.items j ≡ told v old.sure.items j
  sure_other j e = keeps.sures choice v runs j ∙ ap (λ (b : Bool). if b then sure_after (is_kept old m) (v when) (told v old.sure.items m) (v made.sure.at) else told v old.sure.items j) e

  kept_is : is_kept new m ≡ true
  kept_is = keeps.kept m ∙ ap (λ (b : Bool). if b then true else is_kept old m) (eq-eqb m m refl)

  kept_other : (j : ℕ) → nat_eq m j ≡ false → is_kept new j ≡ is_kept old j
  kept_other j e = keeps.kept j ∙ ap (λ (b : Bool). if b then true else is_kept old j) e

  -- of a kind of which something is said the new cell is put over the old one
  put_is : (k : flow.Kind) → slice_get kinds.temps m ≡ Some k → is_for_void (Some k) ≡ false → is_kept old m ≡ true → (x y : Cell) → Meets v (val_at old m) x → Meets v made.val y → put x y ≡ y
  put_is k is some was x y hx hy =
      put_same x y (meets_kind v (val_at old m) x hx ∙ (each m k is was some ∙ (sym (kind k is some) ∙ sym (meets_kind v made.val y hy))))

  -- the step is made: the cell is the new one
  after_on : (x y : Cell) → Meets v (val_at old m) x → Meets v made.val y → is_for_void (slice_get kinds.temps m) ≡ false → v when ≡ true → Meets v (val_at new m) y
  after_on x y hx hy some on = by (is_kept old m) refl
    where
      k : (k : flow.Kind) × (slice_get kinds.temps m ≡ Some k)
      k = get_some kinds.temps m low

      some_k : is_for_void (Some k.0) ≡ false
      some_k = subst (λ (o : Option flow.Kind). is_for_void o ≡ false) k.1 some

      by : (b : Bool) → is_kept old m ≡ b → Meets v (val_at new m) y
      by true e =
          subst (Meets v (val_at new m)) (put_is k.0 k.1 some_k e x y hx hy)
          (subst (λ (b : Bool). Meets v (val_at new m) (if b then put x y else x)) on ((keeps.again e).value choice v runs x y hx hy))
      by false e = subst (λ (z : Val). Meets v z y) (sym (keeps.first e)) hy

  sure_on : v when ≡ true → told v new.sure.items m ≡ v made.sure.at
  sure_on on = sure_is ∙ (ap (λ (b : Bool). sure_after (is_kept old m) b (told v old.sure.items m) (v made.sure.at)) on ∙ both (is_kept old m) (v made.sure.at))
    where
      both : (b x : Bool) → (if b then x else x) ≡ x
      both true x = refl
      both false x = refl

  -- it is not made: the cell is the old one
  after_off : (x y : Cell) → Meets v (val_at old m) x → Meets v made.val y → is_kept old m ≡ true → v when ≡ false → Meets v (val_at new m) x
  after_off x y hx hy e off = subst (λ (b : Bool). Meets v (val_at new m) (if b then put x y else x)) off ((keeps.again e).value choice v runs x y hx hy)

  sure_off : is_kept old m ≡ true → v when ≡ false → told v new.sure.items m ≡ told v old.sure.items m
  sure_off e off =
      sure_is ∙ (ap (λ (b : Bool). sure_after b (v when) (told v old.sure.items m) (v made.sure.at)) e
      ∙ ap (λ (b : Bool). if b then v made.sure.at else told v old.sure.items m) off)

  cells_same : (j : ℕ) (k : Kept) → HasCells v old k j → HasCells v new k j
  cells_same j k h = record {
    kept = ap (λ (xs : List Slot). is_filled xs j) slots_same ∙ h.kept;
    meets = subst (λ (xs : List Slot). HaveCells v (cells_at xs j) (slot k j)) (sym slots_same) h.meets;
  }
    where
      slots_same : new.slots.items ≡ old.slots.items
      slots_same = ap (λ xs. xs.items) keeps.slots

  -- what was kept of another temp
  other_kept : (j : ℕ) (k k' : Kept) → nat_eq m j ≡ false → temp k' j ≡ temp k j → HasKept v p kinds.temps old k j → HasKept v p kinds.temps new k' j
  other_kept j k k' e same h = record {
    kept = kept_other j e ∙ h.kept;
    meets = subst (λ (c : Cell). Meets v (val_at new j) c) (sym same) (subst (λ (z : Val). Meets v z (temp k j)) (sym (keeps.others j e)) h.meets);
    sure = sure_other j e ∙ h.sure;
    place = λ u is. subst (IsPlaceOf p u) (sym same) (h.place u is);
  }

  -- Behind the step: what a run keeps there.
  pub kept_on : (k some : Kept) (a : Cell) (f g : Held → Bool) → HaveKept v p kinds.temps old k f → HaveSome v p kinds.temps old some → IsGood v p kinds.temps m made a
      → v when ≡ true → v made.ends.live.at ≡ true → ((j : ℕ) → nat_eq m j ≡ false → g (InTemp j) ≡ false → f (InTemp j) ≡ false) → ((j : ℕ) → g (InSlot j) ≡ false → f (InSlot j) ≡ false)
      → HaveKept v p kinds.temps new (keep m a k) g
  kept_on k some a f g h other good on live asked asked_slots = record {
    temps = λ j free nonvoid. by j (nat_eq m j) refl free nonvoid;
    slots = λ j free. (let c = cells_same j k (h.slots j (asked_slots j free)) in record { kept = c.kept; meets = c.meets });
  }
    where
      here : is_for_void (slice_get kinds.temps m) ≡ false → HasKept v p kinds.temps new (keep m a k) m
      here nonvoid =
          let same : temp (keep m a k) m ≡ a = with_at_same m a k.temps in
          let sure = good.sure live in
          record {
            kept = kept_is;
            meets = subst (Meets v (val_at new m)) (sym same) (after_on (temp some m) a (other.meets m) good.meets nonvoid on);
            sure = sure_on on ∙ sure;
            place = λ u is. subst (IsPlaceOf p u) (sym same) (good.place u is sure);
          }

      by : (j : ℕ) (b : Bool) → nat_eq m j ≡ b → g (InTemp j) ≡ false → is_for_void (slice_get kinds.temps j) ≡ false → HasKept v p kinds.temps new (keep m a k) j
      by j true e free nonvoid =
          let at : m ≡ j = eqb-true m j e in
          subst (HasKept v p kinds.temps new (keep m a k)) at (here (subst (λ (i : ℕ). is_for_void (slice_get kinds.temps i) ≡ false) (sym at) nonvoid))
      by j false e free nonvoid = other_kept j k (keep m a k) e (with_at_other m j a k.temps e) (h.temps j (asked j e free) nonvoid)

  -- where the step is not made all is as before
  pub kept_off : (k : Kept) (f : Held → Bool) (y : Cell) → Meets v made.val y → v when ≡ false → HaveKept v p kinds.temps old k f → HaveKept v p kinds.temps new k f
  kept_off k f y given off h = record {
    temps = λ j free nonvoid. by j (nat_eq m j) refl (h.temps j free nonvoid);
    slots = λ j free. cells_same j k (h.slots j free);
  }
    where
      by : (j : ℕ) (b : Bool) → nat_eq m j ≡ b → HasKept v p kinds.temps old k j → HasKept v p kinds.temps new k j
      by j true e x =
          let at : m ≡ j = eqb-true m j e in
          let x' : HasKept v p kinds.temps old k m = subst (HasKept v p kinds.temps old k) (sym at) x in
          subst (HasKept v p kinds.temps new k) at (record {
            kept = kept_is;
            meets = after_off (temp k m) y x'.meets given x'.kept off;
            sure = sure_off x'.kept off ∙ x'.sure;
            place = x'.place;
          })
      by j false e x = other_kept j k k e refl x

  -- and something is there in any case
  after_place : (u : Ty) (x y : Cell) → slice_get kinds.temps m ≡ Some (flow.PlaceOf u) → Meets v (val_at old m) x → Meets v made.val y
      → (told v old.sure.items m ≡ true → IsPlaceOf p u x) → (v made.sure.at ≡ true → IsPlaceOf p u y)
      → told v new.sure.items m ≡ true → IsPlaceOf p u (cell_after (is_kept old m) (v when) x y)
  after_place u x y is hx hy px py sure = by (is_kept old m) refl (v when) refl
    where
      by : (b : Bool) → is_kept old m ≡ b → (c : Bool) → v when ≡ c → IsPlaceOf p u (cell_after b c x y)
      by true e true f = subst (IsPlaceOf p u) (sym (put_is (flow.PlaceOf u) is refl e x y hx hy)) (py (sym (sure_on f) ∙ sure))
      by true e false f = px (sym (sure_off e f) ∙ sure)
      by false e c f = py (sym (sure_is ∙ ap (λ (b : Bool). sure_after b (v when) (told v old.sure.items m) (v made.sure.at)) e) ∙ sure)

  pub some_after : (k : Kept) (y : Cell) → HaveSome v p kinds.temps old k → IsGood v p kinds.temps m made y → HaveSome v p kinds.temps new (keep m (cell_after (is_kept old m) (v when) (temp k m) y) k)
  some_after k y h good = record {
    meets = λ j. meets_by j (nat_eq m j) refl;
    place = λ j u is sure. place_by j u is sure (nat_eq m j) refl;
    cells = λ j. subst (λ (xs : List Slot). HaveCells v (cells_at xs j) (slot k j)) (sym (ap (λ xs. xs.items) keeps.slots)) (h.cells j);
  }
    where
      c : Cell
      c = cell_after (is_kept old m) (v when) (temp k m) y

      meets_by : (j : ℕ) (b : Bool) → nat_eq m j ≡ b → Meets v (val_at new j) (temp (keep m c k) j)
      meets_by j true e =
          let at : m ≡ j = eqb-true m j e in
          subst (λ (i : ℕ). Meets v (val_at new i) (temp (keep m c k) i)) at
          (subst (Meets v (val_at new m)) (sym (with_at_same m c k.temps)) (meets_after (temp k m) y (h.meets m) good.meets))
      meets_by j false e =
          subst (Meets v (val_at new j)) (sym (with_at_other m j c k.temps e)) (subst (λ (z : Val). Meets v z (temp k j)) (sym (keeps.others j e)) (h.meets j))

      place_by : (j : ℕ) (u : Ty) → slice_get kinds.temps j ≡ Some (flow.PlaceOf u) → told v new.sure.items j ≡ true → (b : Bool) → nat_eq m j ≡ b → IsPlaceOf p u (temp (keep m c k) j)
      place_by j u is sure true e =
          let at : j ≡ m = sym (eqb-true m j e) in
          let is' : slice_get kinds.temps m ≡ Some (flow.PlaceOf u) = subst (λ (i : ℕ). slice_get kinds.temps i ≡ Some (flow.PlaceOf u)) at is in
          let sure' : told v new.sure.items m ≡ true = subst (λ (i : ℕ). told v new.sure.items i ≡ true) at sure in
          subst (λ (i : ℕ). IsPlaceOf p u (temp (keep m c k) i)) (sym at)
          (subst (IsPlaceOf p u) (sym (with_at_same m c k.temps)) (after_place u (temp k m) y is' (h.meets m) good.meets (h.place m u is') (good.place u is') sure'))
      place_by j u is sure false e = subst (IsPlaceOf p u) (sym (with_at_other m j c k.temps e)) (h.place j u is (sym (sure_other j e) ∙ sure))

-- the kinds of those that were kept
pub kinds_after : (s : Source) (kinds : flow.Kinds) (ns : List Gates) (when m : ℕ) (made : Made) (old new : Temps) → Keeps ns when m made.val made.sure.at old new
    → ((j : ℕ) (k : flow.Kind) → slice_get kinds.temps j ≡ Some k → is_kept old j ≡ true → HasKind s k (val_at old j))
    → ((k : flow.Kind) → slice_get kinds.temps m ≡ Some k → HasKind s k made.val)
    → (j : ℕ) (k : flow.Kind) → slice_get kinds.temps j ≡ Some k → is_kept new j ≡ true → HasKind s k (val_at new j)
kinds_after s kinds ns when m made old new keeps each kind j k is kept = by (nat_eq m j) refl
  where
    first : (b : Bool) → is_kept old m ≡ b → slice_get kinds.temps m ≡ Some k → HasKind s k (val_at new m)
    first true e at = λ some. (keeps.again e).kind ∙ each m k at e some
    first false e at = subst (HasKind s k) (sym (keeps.first e)) (kind k at)

    by : (b : Bool) → nat_eq m j ≡ b → HasKind s k (val_at new j)
    by true e =
        let at : j ≡ m = sym (eqb-true m j e) in
        subst (λ (i : ℕ). HasKind s k (val_at new i)) (sym at) (first (is_kept old m) refl (subst (λ (i : ℕ). slice_get kinds.temps i ≡ Some k) at is))
    by false e =
        subst (HasKind s k) (sym (keeps.others j e)) (each j k is (sym (keeps.kept j ∙ ap (λ (b : Bool). if b then true else is_kept old j) e) ∙ kept))
