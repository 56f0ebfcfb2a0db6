-- What an object adds to a layout: its own location, and parts behind it, all of one root.
use Rattle.std.proofs.Common.{◌≡◌, ℕ, zero, suc, ◌+◌, ◌-◌, ◌<◌, ◌≤◌, Bool, true, false, List, [], ◌∷◌, refl, sym, ap, subst, ◌∙◌, ⊎_elim, arith}
use Rattle.std.proofs.lemmas.Bool.{cases_lt, cases_eq, true≢false}
use Rattle.std.specs.Prelude.{Option, Some, None, if◌then◌else◌}
use Rattle.sc_base.specs.declared.pos.NameId.{NameId}
use Rattle.sum_rows.specs.declared.path.Step.{Step}
use Rattle.sum_rows.specs.declared.path.Step.TheVariants as step
use Rattle.sc_world.specs.declared.run.Origin.{Origin}
use Rattle.sc_world.specs.declared.run.Origin.TheVariants as origin
use Rattle.sc_world.specs.Tree.{Ty}
use Rattle.sc_world.specs.Build.{Built, goes_on, done}
use Rattle.sc_world.specs.Source.{Source, Member}
use Rattle.sc_world.specs.Gather.{Found}
use Rattle.sc_world.specs.Layout.{Layout, Location, location, is_pointer_cell}
use Rattle.sc_world.specs.Objects.{Ground, Chosen, Layer, Parts, NoParts, Elements, Members, add, stub, gives_cells, gives_states, root_or, set_target, elements, members, member_named, is_named, lay_parts, parts, parts_of, object, whole, Stub, follow_at, follow_all, follow_range}
use Rattle.verdict_laws.proofs.Steps.{Post, chained, weaker, both}
use Rattle.verdict_laws.proofs.Laying.{len, bare, Grows, grows_refl, grows_trans, pushed_len, pushed_at, pushed_grows, IsAdded, add_lays, stub_at, IsStubbed, stub_lays, IsPut, target_lays, put_len, put_grows}

-- what each step that adds a location or lets a pointer point keeps
pub record Keeps (s : Source) (T : Layout → Type 0) : Type 0 where
  pub added : (c : Chosen) (root : Option ℕ) (t : Ty) (o : Origin) (p : Layout) → Post (λ at q. T p → T q) (add s c root t o p)
  pub stubbed : (o : Origin) (p : Layout) → Post (λ at q. T p → T q) (stub o p)
  pub pointed : (at to : ℕ) (p : Layout) → Post (λ u q. T p → T q) (set_target at to p)

-- a part, of the object with that root, of something between `lo` and itself
pub record IsPart (c : Chosen) (r lo i : ℕ) (l : Location) : Type 0 where
  pub up : ℕ
  pub step : Step
  pub origin : l.origin ≡ origin.Part up step
  pub above : lo ≤ up
  pub below : up < i
  pub root_is : l.root ≡ r
  pub bit : gives_cells c ≡ false → l.bit ≡ None
  pub state : gives_states c ≡ false → l.state ≡ None

-- the whole of an object, or the first of a part
pub record IsHead (c : Chosen) (r : ℕ) (t : Ty) (o : Origin) (l : Location) : Type 0 where
  pub origin : l.origin ≡ o
  pub root_is : l.root ≡ r
  pub type : l.type ≡ Some t
  pub bit : gives_cells c ≡ false → l.bit ≡ None
  pub state : gives_states c ≡ false → l.state ≡ None

is_no_parts : Parts → Bool
is_no_parts NoParts = true
is_no_parts _ = false

module _ (T : Layout → Type 0) where
  -- parts are added
  pub record Adds (c : Chosen) (r lo : ℕ) (p q : Layout) : Type 0 where
    pub grows : Grows p q
    pub parts : (i : ℕ) → len p ≤ i → i < len q → IsPart c r lo i (bare (location q i))
    pub keeps : T p → T q

  -- an object is added
  pub record Lays (c : Chosen) (r : ℕ) (t : Ty) (o : Origin) (ps : Parts) (p : Layout) (at : ℕ) (q : Layout) : Type 0 where
    pub here : at ≡ len p
    pub more : len p < len q
    pub grows : Grows p q
    pub first : IsHead c r t o (bare (location q (len p)))
    pub parts : (i : ℕ) → len p < i → i < len q → IsPart c r (len p) i (bare (location q i))
    pub alone : ps ≡ NoParts → len q ≡ len p + 1
    pub keeps : T p → T q

  -- stubs are added
  pub record IsStubAt (i : ℕ) (l : Location) : Type 0 where
    pub type : l.type ≡ None
    pub bit : l.bit ≡ None
    pub state : l.state ≡ None
    pub root_is : l.root ≡ i

  pub record Stubs (p q : Layout) : Type 0 where
    pub grows : Grows p q
    pub stubs : (i : ℕ) → len p ≤ i → i < len q → IsStubAt i (bare (location q i))
    pub keeps : T p → T q

  adds_refl : (c : Chosen) (r lo : ℕ) (p : Layout) → Adds c r lo p p
  adds_refl c r lo p = record { grows = grows_refl p; parts = λ i a b. absurd (omega (arith, a, b)); keeps = λ t. t }

  adds_trans : (c : Chosen) (r lo : ℕ) (p q z : Layout) → Adds c r lo p q → Adds c r lo q z → Adds c r lo p z
  adds_trans c r lo p q z a b = record {
    grows = grows_trans p q z a.grows b.grows;
    parts = λ i low high.
        ⊎_elim
        (λ (old : i < len q). subst (IsPart c r lo i) (b.grows.same i old) (a.parts i low old))
        (λ (new : len q ≤ i). b.parts i new high)
        (cases_lt i (len q));
    keeps = λ t. b.keeps (a.keeps t);
  }

  stubs_refl : (p : Layout) → Stubs p p
  stubs_refl p = record { grows = grows_refl p; stubs = λ i a b. absurd (omega (arith, a, b)); keeps = λ t. t }

  stubs_trans : (p q z : Layout) → Stubs p q → Stubs q z → Stubs p z
  stubs_trans p q z a b = record {
    grows = grows_trans p q z a.grows b.grows;
    stubs = λ i low high.
        ⊎_elim
        (λ (old : i < len q). subst (IsStubAt i) (b.grows.same i old) (a.stubs i low old))
        (λ (new : len q ≤ i). b.stubs i new high)
        (cases_lt i (len q));
    keeps = λ t. b.keeps (a.keeps t);
  }

  -- a layer whose objects are parts of what they are laid under
  IsPartLayer : Chosen → ℕ → Layer → Type 0
  IsPartLayer c r part =
      (t : Ty) (s : Step) (at : ℕ) (p : Layout) → at < len p → Post (λ u q. Adds c r at p q) (part t (origin.Part at s) p)

  more_of : {A : Type 0} (c : Chosen) (r at : ℕ) (p q : Layout) (m : Built Layout A) → Adds c r at p q → Post (λ u z. Adds c r at q z) m
      → Post (λ u z. Adds c r at p z) m
  more_of c r at p q m a h = weaker (λ u z. Adds c r at q z) (λ u z. Adds c r at p z) m h (λ u z b. adds_trans c r at p q z a b)

  inside : (c : Chosen) (r lo at : ℕ) (p q : Layout) → Adds c r lo p q → at < len p → at < len q
  inside c r lo at p q a less = omega (arith, a.grows.longer, less)

  element_parts : (c : Chosen) (r : ℕ) (part : Layer) → IsPartLayer c r part → (more k at : ℕ) (t : Ty) (p : Layout) → at < len p
      → Post (λ u q. Adds c r at p q) (elements part more k at t p)
  unfolding IsPartLayer
  element_parts c r part is zero k at t p less = adds_refl c r at p
  element_parts c r part is (suc more) k at t p less =
      chained (λ u q. Adds c r at p q) (λ u q. Adds c r at p q) (part t (origin.Part at (step.Elem k)) p)
      (λ u. elements part more (k + 1) at t) (is t (step.Elem k) at p less)
      (λ u q a. more_of c r at p q (elements part more (k + 1) at t q) a
      (element_parts c r part is more (k + 1) at t q (inside c r at at p q a less)))

  named_if : (c : Chosen) (r : ℕ) (part : Layer) → IsPartLayer c r part → (b : Bool) (n : NameId) (at : ℕ) (t : Ty) (p : Layout) → at < len p
      → Post (λ u q. Adds c r at p q)
      ((if b then (λ (p : Layout). goes_on (part t (origin.Part at (step.Field n)) p) (λ u. done (tt {0}))) else done (tt {0})) p)
  unfolding IsPartLayer
  named_if c r part is true n at t p less =
      chained (λ u q. Adds c r at p q) (λ u q. Adds c r at p q) (part t (origin.Part at (step.Field n)) p) (λ u. done tt)
      (is t (step.Field n) at p less) (λ u q a. a)
  named_if c r part is false n at t p less = adds_refl c r at p

  named_parts : (c : Chosen) (r : ℕ) (part : Layer) → IsPartLayer c r part → (f : Found) (at : ℕ) (t : Ty) (n : Option NameId) (p : Layout)
      → at < len p → Post (λ u q. Adds c r at p q) (member_named part f at t n p)
  named_parts c r part is f at t None p less = adds_refl c r at p
  named_parts c r part is f at t (Some n) p less = named_if c r part is (is_named f n) n at t p less

  member_parts : (c : Chosen) (r : ℕ) (part : Layer) → IsPartLayer c r part → (f : Found) (at : ℕ) (ms : List Member) (p : Layout)
      → at < len p → Post (λ u q. Adds c r at p q) (members part f at ms p)
  member_parts c r part is f at [] p less = adds_refl c r at p
  member_parts c r part is f at (m ∷ ms) p less =
      chained (λ u q. Adds c r at p q) (λ u q. Adds c r at p q) (member_named part f at m.type m.name p) (λ u. members part f at ms)
      (named_parts c r part is f at m.type m.name p less)
      (λ u q a. more_of c r at p q (members part f at ms q) a (member_parts c r part is f at ms q (inside c r at at p q a less)))

  laid_parts : (c : Chosen) (r : ℕ) (part : Layer) → IsPartLayer c r part → (f : Found) (at : ℕ) (ps : Parts) (p : Layout)
      → at < len p → Post (λ u q. Adds c r at p q × (ps ≡ NoParts → len q ≡ len p)) (lay_parts f part at ps p)
  unfolding is_no_parts
  laid_parts c r part is f at NoParts p less = (adds_refl c r at p, λ e. refl)
  laid_parts c r part is f at (Elements n t) p less =
      weaker (λ u q. Adds c r at p q) (λ u q. Adds c r at p q × (Elements n t ≡ NoParts → len q ≡ len p)) (elements part n 0 at t p)
      (element_parts c r part is n 0 at t p less) (λ u q a. (a, λ e. absurd (true≢false (sym (ap is_no_parts e)))))
  laid_parts c r part is f at (Members ms) p less =
      weaker (λ u q. Adds c r at p q) (λ u q. Adds c r at p q × (Members ms ≡ NoParts → len q ≡ len p)) (members part f at ms p)
      (member_parts c r part is f at ms p less) (λ u q a. (a, λ e. absurd (true≢false (sym (ap is_no_parts e)))))

  -- an object that is laid as a part
  as_part : (c : Chosen) (r : ℕ) (t : Ty) (s : Step) (ps : Parts) (lo : ℕ) (p : Layout) (at : ℕ) (q : Layout) → lo < len p
      → Lays c r t (origin.Part lo s) ps p at q → Adds c r lo p q
  as_part c r t s ps lo p at q less is = record {
    grows = is.grows;
    parts = λ i low high.
        ⊎_elim
        (λ (e : i ≡ len p).
        subst (λ n. IsPart c r lo n (bare (location q n))) (sym e) (record {
          up = lo;
          step = s;
          origin = is.first.origin;
          above = omega arith;
          below = less;
          root_is = is.first.root_is;
          bit = is.first.bit;
          state = is.first.state;
        }))
        (λ (other : i ≡ len p → ⊥).
        let part = is.parts i (omega (arith, low, other)) high in record {
          up = part.up;
          step = part.step;
          origin = part.origin;
          above = omega (arith, part.above, less);
          below = part.below;
          root_is = part.root_is;
          bit = part.bit;
          state = part.state;
        })
        (cases_eq i (len p));
    keeps = is.keeps;
  }

  -- an object of the location that is added and of parts
  laid_of : (c : Chosen) (root : Option ℕ) (t : Ty) (o : Origin) (ps : Parts) (p : Layout) (at : ℕ) (q z : Layout)
      → IsAdded c root t o p at q → (T p → T q) → Adds c (root_or root at) at q z → (ps ≡ NoParts → len z ≡ len q)
      → Lays c (root_or root (len p)) t o ps p at z
  laid_of c root t o ps p at q z is kept a alone =
      let b : Adds c (root_or root (len p)) (len p) q z = subst (λ n. Adds c (root_or root n) n q z) is.here a in
      let longer : len q ≡ len p + 1 = pushed_len p q is.l is.is in
      let e : bare is.l ≡ bare (location z (len p)) =
      ap bare (sym (pushed_at p q is.l is.is)) ∙ b.grows.same (len p) (omega (arith, longer)) in
      record {
        here = is.here;
        more = omega (arith, longer, b.grows.longer);
        grows = grows_trans p q z (pushed_grows p q is.l is.is) b.grows;
        first = subst (IsHead c (root_or root (len p)) t o) e
            (record { origin = is.origin; root_is = is.root_is; type = is.type; bit = is.bit; state = is.state });
        parts = λ i low high. b.parts i (omega (arith, longer, low)) high;
        alone = λ none. alone none ∙ longer;
        keeps = λ t. b.keeps (kept t);
      }

  module _ (g : Ground) (k : Keeps g.source T) where
    pub object_lays : (deep : ℕ) (c : Chosen) (root : Option ℕ) (t : Ty) (o : Origin) (p : Layout)
        → Post (Lays c (root_or root (len p)) t o (parts_of g.source t) p) (object deep g c root t o p)
    unfolding object IsPartLayer
    object_lays zero c root t o p = tt
    object_lays (suc deep) c root t o p =
        chained (λ at q. IsAdded c root t o p at q × (T p → T q)) (Lays c (root_or root (len p)) t o (parts_of g.source t) p)
        (add g.source c root t o p)
        (λ at. λ q. goes_on (parts g (object deep g c (Some (root_or root at))) at t q) (λ u. done at))
        (both (IsAdded c root t o p) (λ at q. T p → T q) (add g.source c root t o p) (add_lays g.source c root t o p) (k.added c root t o p))
        (λ at q is.
        let added = is.0 in
        chained (λ u z. Adds c (root_or root at) at q z × (parts_of g.source t ≡ NoParts → len z ≡ len q))
        (Lays c (root_or root (len p)) t o (parts_of g.source t) p)
        (parts g (object deep g c (Some (root_or root at))) at t q) (λ u. done at)
        (laid_parts c (root_or root at) (object deep g c (Some (root_or root at)))
        (λ v s up z less.
        weaker (Lays c (root_or root at) v (origin.Part up s) (parts_of g.source v) z) (λ w y. Adds c (root_or root at) up z y)
        (object deep g c (Some (root_or root at)) v (origin.Part up s) z)
        (object_lays deep c (Some (root_or root at)) v (origin.Part up s) z)
        (λ w y lays. as_part c (root_or root at) v s (parts_of g.source v) up z w y less lays))
        g.found at (parts_of g.source t) q
        (omega (arith, added.here, pushed_len p q added.l added.is)))
        (λ u z a. laid_of c root t o (parts_of g.source t) p at q z added is.1 a.0 a.1))

    pub whole_lays : (c : Chosen) (t : Ty) (o : Origin) (p : Layout)
        → Post (Lays c (len p) t o (parts_of g.source t) p) (whole g c t o p)
    whole_lays c t o p = object_lays 257 c None t o p

    stub_stubs : (o : Origin) (p : Layout) → Post (λ at q. Stubs p q) (stub o p)
    stub_stubs o p =
        weaker (λ at q. IsStubbed o p at q × (T p → T q)) (λ at q. Stubs p q) (stub o p)
        (both (IsStubbed o p) (λ at q. T p → T q) (stub o p) (stub_lays o p) (k.stubbed o p))
        (λ at q is.
        let stubbed = is.0 in
        let longer : len q ≡ len p + 1 = pushed_len p q (stub_at (len p) o) stubbed.is in record {
          grows = pushed_grows p q (stub_at (len p) o) stubbed.is;
          stubs = λ i low high.
              let e : len p ≡ i = omega (arith, low, high, longer) in
              subst (λ n. IsStubAt n (bare (location q n))) e
              (subst (IsStubAt (len p)) (ap bare (sym (pushed_at p q (stub_at (len p) o) stubbed.is)))
              (record { type = refl; bit = refl; state = refl; root_is = refl }));
          keeps = is.1;
        })

    pub target_grows : (at to : ℕ) (p : Layout)
        → Post (λ u q. (Grows p q) × (len q ≡ len p) × (T p → T q)) (set_target at to p)
    target_grows at to p =
        weaker (λ u q. IsPut p at (record (location p at) { target = Some to }) q × (T p → T q))
        (λ u q. (Grows p q) × (len q ≡ len p) × (T p → T q)) (set_target at to p)
        (both (λ u q. IsPut p at (record (location p at) { target = Some to }) q) (λ u q. T p → T q) (set_target at to p)
        (target_lays at to p) (k.pointed at to p))
        (λ u q is. (
          put_grows p q at (record (location p at) { target = Some to }) is.0 refl,
          put_len p q at (record (location p at) { target = Some to }) is.0,
          is.1,
        ))

    pointed_stubs : (p q z : Layout) → Stubs p q → Grows q z → len z ≡ len q → (T q → T z) → Stubs p z
    pointed_stubs p q z a g e t = record {
      grows = grows_trans p q z a.grows g;
      stubs = λ i low high.
          let old : i < len q = omega (arith, high, e) in subst (IsStubAt i) (g.same i old) (a.stubs i low old);
      keeps = λ x. t (a.keeps x);
    }

    stub_cell_if : (b : Bool) (o : Origin) (at : ℕ) (p : Layout)
        → Post (λ u q. Stubs p q) ((if b then (λ (p : Layout). goes_on (stub o p) (λ to. set_target at to)) else done tt) p)
    stub_cell_if false o at p = stubs_refl p
    stub_cell_if true o at p =
        chained (λ to q. Stubs p q) (λ u q. Stubs p q) (stub o p) (λ to. set_target at to) (stub_stubs o p)
        (λ to q a.
        weaker (λ u z. (Grows q z) × (len z ≡ len q) × (T q → T z)) (λ u z. Stubs p z) (set_target at to q) (target_grows at to q)
        (λ u z is. pointed_stubs p q z a is.0 is.1 is.2))

    stub_at_cell : (at : ℕ) (p : Layout) → Post (λ u q. Stubs p q) (follow_at g Stub at p)
    stub_at_cell at p = stub_cell_if (is_pointer_cell (location p at)) (origin.Target at) at p

    stub_all : (more at : ℕ) (p : Layout) → Post (λ u q. Stubs p q) (follow_all more at g Stub p)
    stub_all zero at p = stubs_refl p
    stub_all (suc more) at p =
        chained (λ u q. Stubs p q) (λ u q. Stubs p q) (follow_at g Stub at p) (λ u. follow_all more (at + 1) g Stub) (stub_at_cell at p)
        (λ u q a. weaker (λ u z. Stubs q z) (λ u z. Stubs p z) (follow_all more (at + 1) g Stub q) (stub_all more (at + 1) q)
        (λ u z b. stubs_trans p q z a b))

    pub stub_range : (from to : ℕ) (p : Layout) → Post (λ u q. Stubs p q) (follow_range from to g Stub p)
    stub_range from to p = stub_all (to - from) from p

    pub stub_one : (o : Origin) (p : Layout) → Post (λ at q. Stubs p q) (stub o p)
    stub_one o p = stub_stubs o p
