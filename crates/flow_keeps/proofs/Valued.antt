-- A node that keeps the value of an expression, or its place: its gates do the node's step.
use Rattle.std.proofs.Common.{◌≡◌, ℕ, ◌+◌, ◌<◌, ◌≤◌, nat_eq, Bool, true, false, ◌&&◌, ◌||◌, if◌then◌else◌, Option, Some, None, List, [], ◌∷◌, ◌++◌, map, drop, length, slice_get, slice_index_or, ◌⊎◌, inl, inr, refl, sym, ◌∙◌, ap, subst, arith}
use Rattle.std.proofs.lemmas.Bool.{eq-eqb, eqb-true}
use Rattle.bit_net.specs.declared.nodes.Gate.{Gate}
use Rattle.bit_net.specs.declared.nodes.Node.{Node as Gates}
use Rattle.bit_net.specs.Runs.{Runs, Grown, Gives}
use Rattle.gl_store.specs.declared.values.Val.{Val}
use Rattle.gl_store.specs.declared.stores.Location.{Location}
use Rattle.gl_store.specs.Meets.{Meets, val_kind}
use Rattle.gate_runs.specs.declared.ends.Ends.{Ends}
use Rattle.gate_runs.specs.Standing.{Standing}
use Rattle.gate_runs.specs.Stands.{Stands, Does, Any, told}
use Rattle.run_store.specs.Concrete.{Cell, Nothing, Pointers, Numbers, NoCell}
use Rattle.run_laws.specs.Fits.{is_scalar, IsPlaceOf}
use Rattle.sc_world.specs.Tree.{Ty, is_pointer, is_integer, int_bits, Exp, type_of}
use Rattle.sc_world.specs.Source.{Source}
use Rattle.sc_world.specs.Layout.{Layout}
use Rattle.sc_world.specs.World.{Run, bit_at, kind_of_type}
use Rattle.sc_world.specs.Eval.{Want, Value, Place', eval}
use Rattle.flow_graph.specs.Nodes.{Node, Kept, Keep, temp, reads}
use Rattle.flow_graph.specs.Conditions.{Held, InTemp, among, read_by, temps_of}
use Rattle.flow_types.specs.Kinds as flow
use Rattle.flow_types.specs.Nodes.{NodeFits}
use Rattle.flow_stages.specs.Stage.{unread}
use Rattle.flow_stages.proofs.OfNodes.{nodes_are_at, reads_are_asked}
use Rattle.flow_turns.specs.declared.before.Before.{Before}
use Rattle.flow_turns.specs.declared.before.Arrival.{Arrival}
use Rattle.flow_turns.specs.declared.steps.Made.{Made}
use Rattle.flow_turns.specs.declared.temps.Temps.{Temps}
use Rattle.flow_turns.specs.Kept.{val_at, HasKept, HaveKept, HaveSome, HasKind, is_for_void, kind_for}
use Rattle.flow_turns.specs.Before.{IsFit, drops}
use Rattle.flow_turns.specs.Steps.{IsGood, DoesNode, DoesStep, Settles}
use Rattle.flow_turns.proofs.Turning.{fits_at}
use Rattle.flow_keeps.specs.Keeps.{BeginsAt, KeepsValue}
use Rattle.flow_keeps.specs.Evaluates.{Evaluates, IsUsable, IsReadAs, IsWanted, kind_of}
use Rattle.flow_keeps.specs.Reads.{each_sure}

-- what is good of a step's value, in other words
pub does_also : {A : Type 0} (v : ℕ → Bool) (old new : List Location) (begun ends : Ends) (m : Run A) (Good Fine : A → Type 0) → ((a : A) → Good a → Fine a)
    → Does v old begun m new ends Good → Does v old begun m new ends Fine
does_also v old new begun ends m Good Fine turn d = record {
  does = λ s h. (let x = d.does s h in record {
    store = x.store;
    tells = x.tells;
    given = x.given;
    good = turn x.given x.good;
    is = x.is;
  });
}

-- Where each of the temps may be used, one of them may.
sure_one : (v : ℕ → Bool) (t : Temps) (ms : List ℕ) (m : ℕ) → each_sure v t ms ≡ true → among (InTemp m) (map InTemp ms) ≡ true → told v t.sure.items m ≡ true
sure_one v t [] m all is = absurd (cc)
sure_one v t (x ∷ ms) m all is = by (nat_eq m x) refl (λ a n. sure_one v t ms m a n)
  where
    first : (a b : Bool) → (a && b) ≡ true → a ≡ true
    first true b e = refl
    first false b e = absurd (cc)

    second : (a b : Bool) → (a && b) ≡ true → b ≡ true
    second true b e = e
    second false b e = absurd (cc)

    by : (b : Bool) → nat_eq m x ≡ b → (each_sure v t ms ≡ true → among (InTemp m) (map InTemp ms) ≡ true → told v t.sure.items m ≡ true) → told v t.sure.items m ≡ true
    by true e rest = ap (λ i. told v t.sure.items i) (eqb-true m x e) ∙ first (told v t.sure.items x) (each_sure v t ms) all
    by false e rest = rest (second (told v t.sure.items x) (each_sure v t ms) all) (sym (ap (λ b. b || among (InTemp m) (map InTemp ms)) e) ∙ is)

sure_all : (v : ℕ → Bool) (t : Temps) (ms : List ℕ) → ((m : ℕ) → among (InTemp m) (map InTemp ms) ≡ true → told v t.sure.items m ≡ true) → each_sure v t ms ≡ true
sure_all v t [] h = refl
sure_all v t (x ∷ ms) h =
    ap (λ b. b && each_sure v t ms) (h x (ap (λ b. b || among (InTemp x) (map InTemp ms)) (eq-eqb x x refl)))
    ∙ sure_all v t ms (λ m is. h m (either (nat_eq m x) (among (InTemp m) (map InTemp ms)) is))
  where
    either : (a b : Bool) → b ≡ true → (a || b) ≡ true
    either true b e = refl
    either false b e = e

scalar : (u : Ty) → is_pointer u ≡ true → is_scalar u ≡ true
scalar u e = by (is_integer u)
  where
    by : (b : Bool) → (b || is_pointer u) ≡ true
    by true = refl
    by false = e

-- what a node keeps has the kind for its temp
pub kind_of_kept : (s : Source) (kinds : flow.Kinds) (want : Want) (t : Ty) (m : ℕ) (x : Val) → flow.IsFor kinds want t m → HasKind s (kind_of want t) x
    → (k : flow.Kind) → slice_get kinds.temps m ≡ Some k → HasKind s k x
kind_of_kept s kinds Value t m x is h k at = subst (λ (k : flow.Kind). HasKind s k x) (the_same is at) h
  where
    the_same : slice_get kinds.temps m ≡ Some (flow.ValueOf t) → slice_get kinds.temps m ≡ Some k → flow.ValueOf t ≡ k
    the_same a b = let e : Some (flow.ValueOf t) ≡ Some k = sym a ∙ b in cc
kind_of_kept s kinds Place' t m x (inl is) h k at = subst (λ (k : flow.Kind). HasKind s k x) (the_same is at) h
  where
    the_same : slice_get kinds.temps m ≡ Some (flow.PlaceOf t) → slice_get kinds.temps m ≡ Some k → flow.PlaceOf t ≡ k
    the_same a b = let e : Some (flow.PlaceOf t) ≡ Some k = sym a ∙ b in cc
kind_of_kept s kinds Place' t m x (inr is) h k at =
    subst (λ (k : flow.Kind). HasKind s k x) (the_same is.1 at) (λ some. h refl ∙ pointer is.0 is.2)
  where
    the_same : slice_get kinds.temps m ≡ Some (flow.ValueOf is.0) → slice_get kinds.temps m ≡ Some k → flow.ValueOf is.0 ≡ k
    the_same a b = let e : Some (flow.ValueOf is.0) ≡ Some k = sym a ∙ b in cc

    pointer : (u : Ty) → is_pointer u ≡ true → Pointers ≡ kind_for s (flow.ValueOf u)
    pointer u e = sym (ap (λ b. if b then kind_of_type s (Some u) else Pointers) (scalar u e) ∙ ap (λ b. if b then Pointers else (if is_integer u then Numbers (int_bits s.widths u) else NoCell)) e)

-- the kept place of a temp
pub good_place : (p : Layout) (kinds : flow.Kinds) (want : Want) (t : Ty) (m : ℕ) (v : ℕ → Bool) (made : Made) (c : Cell) → flow.IsFor kinds want t m → IsUsable want v made.ends.live.at made.sure.at
    → IsWanted v made.ends.live.at p (kind_of want t) made.val c → IsGood v p kinds.temps m made c
good_place p kinds Value t m v made c is sure good = record {
  meets = good;
  sure = λ live. sure;
  place = λ u at some. absurd (other (sym is ∙ at));
}
  where
    other : {u : Ty} → Some (flow.ValueOf t) ≡ Some (flow.PlaceOf u) → ⊥
    other e = cc
good_place p kinds Place' t m v made c is sure good = record {
  meets = good.0;
  sure = λ live. sure ∙ live;
  place = λ u at some. by u is at (good.1 (sym sure ∙ some));
}
  where
    by : (u : Ty) → flow.IsFor kinds Place' t m → slice_get kinds.temps m ≡ Some (flow.PlaceOf u) → IsPlaceOf p t c → IsPlaceOf p u c
    by u (inl a) at h = subst (λ (w : Ty). IsPlaceOf p w c) (let e : Some (flow.PlaceOf t) ≡ Some (flow.PlaceOf u) = sym a ∙ at in cc) h
    by u (inr a) at h = absurd (let e : Some (flow.ValueOf a.0) ≡ Some (flow.PlaceOf u) = sym a.1 ∙ at in cc)

-- The evaluation of the expression of a node, from what was kept in a run, and from what temps have in any case.
module _ (s : Source) (p : Layout) (kinds : flow.Kinds) (nodes : List Node) (node : ℕ) (n : Node) (ns : List Gates) (want : Want) (e : Exp) (here : Arrival) (old : Before) (stored : List Location) (made : Made)
    (is : slice_get nodes node ≡ Some n) (other : drops n ≡ false) (read : read_by n ≡ map InTemp (temps_of e)) (fit : IsFit s p kinds nodes) (fits : flow.FitsOver kinds p want e)
    (ev : Evaluates s p old.temps ns want e old.store.locations.items stored made) (on : BeginsAt ns here old (temps_of e) made.on.at)
    (bits : List Bool) (v : ℕ → Bool) (runs : Runs ns (bit_at bits) v) where
  has : (k : Kept) → HaveKept v p kinds.temps old.temps k (unread nodes node node) → (j : ℕ) → among (InTemp j) (map InTemp (temps_of e)) ≡ true → HasKept v p kinds.temps old.temps k j
  has k kept j named =
      let named' : among (InTemp j) (read_by n) ≡ true = ap (among (InTemp j)) read ∙ named in
      kept.temps j (reads_are_asked nodes node n (InTemp j) (nodes_are_at nodes node n is) named') (fit.void node j n is other named')

  pub narrow : v here.gate.at ≡ false → v made.on.at ≡ false
  narrow off = on.value (bit_at bits) v runs ∙ ap (λ b. b && each_sure v old.temps (temps_of e)) off

  pub wide : (k : Kept) → HaveKept v p kinds.temps old.temps k (unread nodes node node) → v here.gate.at ≡ true → v made.on.at ≡ true
  wide k kept here_on =
      on.value (bit_at bits) v runs
      ∙ (ap (λ b. b && each_sure v old.temps (temps_of e)) here_on ∙ sure_all v old.temps (temps_of e) (λ j named. (has k kept j named).sure))

  of_kept : (k : Kept) (j : ℕ) (kind : flow.Kind) → slice_get kinds.temps j ≡ Some kind → HasKept v p kinds.temps old.temps k j
      → IsReadAs v (v ev.begun.live.at) p kind (val_at old.temps j) (slice_index_or k.temps j Nothing)
  of_kept k j (flow.ValueOf t) at h = h.meets
  of_kept k j (flow.PlaceOf t) at h = (h.meets, λ live. h.place t at)

  pub does_kept : (k : Kept) → HaveKept v p kinds.temps old.temps k (unread nodes node node)
      → Does v old.store.locations.items ev.begun (eval e want (reads s p bits k)) stored made.ends (IsWanted v made.ends.live.at p (kind_of want (type_of e)) made.val)
  does_kept k kept = ev.does (bit_at bits) v runs kinds fits bits k.temps (λ j named kind at. of_kept k j kind at (has k kept j named))

  second : (a b : Bool) → (a && b) ≡ true → b ≡ true
  second true b e = e
  second false b e = absurd (cc)

  of_some : (k : Kept) → HaveSome v p kinds.temps old.temps k → (j : ℕ) → among (InTemp j) (map InTemp (temps_of e)) ≡ true
      → (kind : flow.Kind) → slice_get kinds.temps j ≡ Some kind
      → IsReadAs v (v ev.begun.live.at) p kind (val_at old.temps j) (slice_index_or k.temps j Nothing)
  of_some k some j named (flow.ValueOf t) at = some.meets j
  of_some k some j named (flow.PlaceOf t) at = (
    some.meets j,
    λ live. some.place j t at (sure_one v old.temps (temps_of e) j
        (second (v here.gate.at) (each_sure v old.temps (temps_of e)) (sym (on.value (bit_at bits) v runs) ∙ (sym (ap v ev.began.live) ∙ live))) named),
  )

  pub does_some : (k : Kept) → HaveSome v p kinds.temps old.temps k
      → Does v old.store.locations.items ev.begun (eval e want (reads s p bits k)) stored made.ends (IsWanted v made.ends.live.at p (kind_of want (type_of e)) made.val)
  does_some k some = ev.does (bit_at bits) v runs kinds fits bits k.temps (λ j named kind at. of_some k some j named kind at)

-- a node that keeps the value of an expression
kept_step : (s : Source) (p : Layout) (kinds : flow.Kinds) (nodes : List Node) (node : ℕ) (ns : List Gates) (want : Want) (m next : ℕ) (e : Exp) (here : Arrival) (old : Before) (stored : List Location) (made : Made)
    → slice_get nodes node ≡ Some (Keep want m e next) → drops (Keep want m e next) ≡ false → IsFit s p kinds nodes → NodeFits s p kinds (Keep want m e next)
    → Evaluates s p old.temps ns want e old.store.locations.items stored made → BeginsAt ns here old (temps_of e) made.on.at
    → DoesStep s p kinds.temps nodes node ns (Keep want m e next) m next here old stored made
kept_step s p kinds nodes node ns want m next e here old stored made is other fit fits ev on = record {
  same = ev.same;
  keeps = refl;
  on = λ is_so. refl;
  kind = kind_of_kept s kinds want (type_of e) m made.val fits.1 ev.kind;
  later = λ at count h. h;
  does = λ bits few v runs.
      (let n = Keep want m e next in
      let good = λ (c : Cell). good_place p kinds want (type_of e) m v made c fits.1 (ev.usable (bit_at bits) v runs) in
      record {
        m = λ k. eval e want (reads s p bits k);
        acts = λ go k w. refl;
        begun = ev.begun;
        began = ev.began;
        narrow = narrow s p kinds nodes node n ns want e here old stored made is other refl fit fits.0 ev on bits v runs;
        wide = wide s p kinds nodes node n ns want e here old stored made is other refl fit fits.0 ev on bits v runs;
        does = λ k kept.
            does_also v old.store.locations.items stored ev.begun made.ends (eval e want (reads s p bits k)) (IsWanted v made.ends.live.at p (kind_of want (type_of e)) made.val) (IsGood v p kinds.temps m made) good
            (does_kept s p kinds nodes node n ns want e here old stored made is other refl fit fits.0 ev on bits v runs k kept);
        some = λ k some.
            does_also v old.store.locations.items stored ev.begun made.ends (eval e want (reads s p bits k)) (IsWanted v made.ends.live.at p (kind_of want (type_of e)) made.val) (IsGood v p kinds.temps m made) good
            (does_some s p kinds nodes node n ns want e here old stored made is other refl fit fits.0 ev on bits v runs k some);
      });
}

pub kept_value : (ns ns' : List Gates) (m next : ℕ) (here : Arrival) (made : Made) (mid new : Before) → Settles ns ns' m next here made mid new → KeepsValue ns ns' m next here made mid new
kept_value ns ns' m next here made mid new h = record {
  past = λ s p nodes node want e is other old_ns g old wrote at on ev.
      h.past s p nodes node (Keep want m e next) is old_ns g old wrote at
      (kept_step s p at.kinds nodes node ns want m next e here old mid.store.locations.items made is other at.fit (fits_at s p at.kinds nodes node (Keep want m e next) is at.fit.types) ev on);
}
