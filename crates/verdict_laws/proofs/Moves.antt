-- What is laid before bits are given to calls: each bit that is taken is one of a new location, and the object of each
-- call has no bits yet.
use Rattle.std.proofs.Common.{◌≡◌, ℕ, zero, suc, ◌+◌, ◌-◌, ◌<◌, ◌≤◌, Bool, true, false, List, [], ◌∷◌, length, sym, ap, subst, ◌∙◌, ⊎_elim, arith}
use Rattle.std.proofs.lemmas.Bool.{cases_lt, cases_eq}
use Rattle.std.specs.Prelude.{Some, None, nat_eq, slice_index_or, if◌then◌else◌}
use Rattle.std.specs.List.{list_any}
use Rattle.sc_world.specs.declared.run.Origin.{Origin}
use Rattle.sc_world.specs.declared.run.Origin.TheVariants as origin
use Rattle.sc_world.specs.Tree.{Ty, target_or_void}
use Rattle.sc_world.specs.Build.{Built, Build, goes_on, done}
use Rattle.sc_world.specs.Layout.{Layout, Location, Occurrence, location, is_pointer_cell, no_occurrence}
use Rattle.sc_world.specs.Objects.{Ground, Chosen, Nothing, Cells, CellsAndStates, parts_of, whole, stub, Object, Stub, set_target, follow_at, follow_all, follow_range, type_or_void, lay_params, lay_global, lay_globals, lay_locals, lay_literals, levels}
use Rattle.verdict_laws.proofs.Steps.{Post, chained, weaker}
use Rattle.verdict_laws.proofs.Laying.{len, bare, Grows, grows_refl, grows_trans}
use Rattle.verdict_laws.proofs.Objects.{Lays, Stubs, whole_lays, stub_range, stub_one, target_grows}
use Rattle.verdict_laws.proofs.Tiles.{Same, same_refl, same_trans, same_kept}

module _ (g : Ground) where
  pub record Moves (p q : Layout) : Type 0 where
    pub grows : Grows p q
    pub low : (i : ℕ) → len p ≤ i → i < len q → len p ≤ (bare (location q i)).root
    pub high : (i : ℕ) → len p ≤ i → i < len q → (bare (location q i)).root ≤ i
    pub same : Same g.source p q

  pub moves_refl : (p : Layout) → Moves p p
  moves_refl p = record {
    grows = grows_refl p;
    low = λ i a b. absurd (omega (arith, a, b));
    high = λ i a b. absurd (omega (arith, a, b));
    same = same_refl g.source p;
  }

  pub moves_trans : (p q z : Layout) → Moves p q → Moves q z → Moves p z
  moves_trans p q z a b = record {
    grows = grows_trans p q z a.grows b.grows;
    low = λ i low high.
        ⊎_elim
        (λ (old : i < len q). subst (λ l. len p ≤ l.root) (b.grows.same i old) (a.low i low old))
        (λ (new : len q ≤ i). omega (arith, a.grows.longer, b.low i new high))
        (cases_lt i (len q));
    high = λ i low high.
        ⊎_elim
        (λ (old : i < len q). subst (λ l. l.root ≤ i) (b.grows.same i old) (a.high i low old))
        (λ (new : len q ≤ i). b.high i new high)
        (cases_lt i (len q));
    same = same_trans g.source p q z a.same b.same;
  }

  pub moved : {A : Type 0} (p q : Layout) (m : Built Layout A) → Moves p q → Post (λ u z. Moves q z) m → Post (λ u z. Moves p z) m
  moved p q m a h = weaker (λ u z. Moves q z) (λ u z. Moves p z) m h (λ u z b. moves_trans p q z a b)

  pub steps : {A B : Type 0} (p : Layout) (m : Built Layout A) (f : A → Build Layout B) → Post (λ a q. Moves p q) m
      → ((a : A) (q : Layout) → Post (λ b z. Moves q z) (f a q)) → Post (λ b z. Moves p z) (goes_on m f)
  steps p m f h k = chained (λ a q. Moves p q) (λ b z. Moves p z) m f h (λ a q is. moved p q (f a q) is (k a q))

  pub lays_move : (c : Chosen) (t : Ty) (o : Origin) (p : Layout) (at : ℕ) (q : Layout)
      → Lays (Same g.source p) c (len p) t o (parts_of g.source t) p at q → Moves p q
  lays_move c t o p at q is =
      let root_at : (i : ℕ) → len p ≤ i → i < len q → (bare (location q i)).root ≡ len p =
      λ i low high.
      ⊎_elim
      (λ (e : i ≡ len p). subst (λ n. (bare (location q n)).root ≡ len p) (sym e) is.first.root_is)
      (λ (other : i ≡ len p → ⊥). (is.parts i (omega (arith, low, other)) high).root_is)
      (cases_eq i (len p)) in
      record {
        grows = is.grows;
        low = λ i low high. omega (arith, root_at i low high);
        high = λ i low high. omega (arith, low, root_at i low high);
        same = is.keeps (same_refl g.source p);
      }

  pub stubs_move : (p q : Layout) → Stubs (Same g.source p) p q → Moves p q
  stubs_move p q is = record {
    grows = is.grows;
    low = λ i low high. omega (arith, low, (is.stubs i low high).root_is);
    high = λ i low high. omega (arith, (is.stubs i low high).root_is);
    same = is.keeps (same_refl g.source p);
  }

  -- an object, with no bits where the choice gives it nothing
  NoBits : Layout → Layout → Type 0
  NoBits p q = (i : ℕ) → len p ≤ i → i < len q → (bare (location q i)).bit ≡ None

  pub whole_moves : (c : Chosen) (t : Ty) (o : Origin) (p : Layout) → Post (λ at q. Moves p q) (whole g c t o p)
  whole_moves c t o p =
      weaker (Lays (Same g.source p) c (len p) t o (parts_of g.source t) p) (λ at q. Moves p q) (whole g c t o p)
      (whole_lays (Same g.source p) g (same_kept g.source p) c t o p) (λ at q is. lays_move c t o p at q is)

  pub stubs_moves : (from to : ℕ) (p : Layout) → Post (λ u q. Moves p q) (follow_range from to g Stub p)
  stubs_moves from to p =
      weaker (λ u q. Stubs (Same g.source p) p q) (λ u q. Moves p q) (follow_range from to g Stub p)
      (stub_range (Same g.source p) g (same_kept g.source p) from to p) (λ u q is. stubs_move p q is)

  pub stub_moves : (o : Origin) (p : Layout) → Post (λ at q. Moves p q) (stub o p)
  stub_moves o p =
      weaker (λ u q. Stubs (Same g.source p) p q) (λ u q. Moves p q) (stub o p)
      (stub_one (Same g.source p) g (same_kept g.source p) o p) (λ u q is. stubs_move p q is)

  target_moves : (at to : ℕ) (p : Layout) → Post (λ u q. Moves p q) (set_target at to p)
  target_moves at to p =
      weaker (λ u q. (Grows p q) × (len q ≡ len p) × (Same g.source p p → Same g.source p q)) (λ u q. Moves p q) (set_target at to p)
      (target_grows (Same g.source p) g (same_kept g.source p) at to p)
      (λ u q is. record {
        grows = is.0;
        low = λ i low high. absurd (omega (arith, low, high, is.1));
        high = λ i low high. absurd (omega (arith, low, high, is.1));
        same = is.2 (same_refl g.source p);
      })

  object_if_moves : (b : Bool) (t : Ty) (at : ℕ) (p : Layout)
      → Post (λ u q. Moves p q)
      ((if b then (λ (p : Layout). goes_on (whole g CellsAndStates t (origin.Target at) p) (λ to. set_target at to)) else done (tt {0})) p)
  object_if_moves false t at p = moves_refl p
  object_if_moves true t at p =
      steps p (whole g CellsAndStates t (origin.Target at) p) (λ to. set_target at to) (whole_moves CellsAndStates t (origin.Target at) p)
      (λ to q. target_moves at to q)

  objects_move : (more at : ℕ) (p : Layout) → Post (λ u q. Moves p q) (follow_all more at g (Object CellsAndStates) p)
  objects_move zero at p = moves_refl p
  objects_move (suc more) at p =
      steps p (follow_at g (Object CellsAndStates) at p) (λ u. follow_all more (at + 1) g (Object CellsAndStates))
      (object_if_moves (is_pointer_cell (location p at)) (target_or_void (type_or_void (location p at).type)) at p)
      (λ u q. objects_move more (at + 1) q)

  levels_move : (reach from to : ℕ) (p : Layout) → Post (λ u q. Moves p q) (levels reach from to g p)
  levels_move zero from to p = stubs_moves from to p
  levels_move (suc reach) from to p =
      steps p (follow_range from to g (Object CellsAndStates) p) (λ u. λ q. levels reach (len p) (len q) g q)
      (objects_move (to - from) from p) (λ u q. levels_move reach (len p) (len q) q)

  params_move : (n : ℕ) (ts : List Ty) (p : Layout) → Post (λ u q. Moves p q) (lay_params n ts g p)
  params_move n [] p = moves_refl p
  params_move n (t ∷ ts) p =
      steps p (whole g Cells t (origin.Param n) p) (λ u. lay_params (n + 1) ts g) (whole_moves Cells t (origin.Param n) p)
      (λ u q. params_move (n + 1) ts q)

  global_moves : (b : Bool) (n : ℕ) (t : Ty) (p : Layout)
      → Post (λ u q. Moves p q)
      ((if b then (λ (p : Layout). goes_on (whole g CellsAndStates t (origin.Global n) p) (λ u. done (tt {0}))) else done (tt {0})) p)
  global_moves false n t p = moves_refl p
  global_moves true n t p =
      steps p (whole g CellsAndStates t (origin.Global n) p) (λ u. done tt) (whole_moves CellsAndStates t (origin.Global n) p) (λ u q. moves_refl q)

  globals_move : (n : ℕ) (ts : List Ty) (p : Layout) → Post (λ u q. Moves p q) (lay_globals n ts g p)
  globals_move n [] p = moves_refl p
  globals_move n (t ∷ ts) p =
      steps p (lay_global g n t p) (λ u. lay_globals (n + 1) ts g) (global_moves (list_any (nat_eq n) g.found.globals) n t p)
      (λ u q. globals_move (n + 1) ts q)

  locals_move : (n : ℕ) (ts : List Ty) (p : Layout) → Post (λ u q. Moves p q) (lay_locals n ts g p)
  locals_move n [] p = moves_refl p
  locals_move n (t ∷ ts) p =
      steps p (whole g Nothing t (origin.Local n) p) (λ u. lay_locals (n + 1) ts g) (whole_moves Nothing t (origin.Local n) p)
      (λ u q. locals_move (n + 1) ts q)

  literals_move : (os : List Origin) (p : Layout) → Post (λ u q. Moves p q) (lay_literals os p)
  literals_move [] p = moves_refl p
  literals_move (o ∷ os) p = steps p (stub o p) (λ u. lay_literals os) (stub_moves o p) (λ u q. literals_move os q)

  -- all that stands before calls, and a step behind it
  pub entry_then : (p : Layout) (R : Layout → Type 0) (h : Build Layout (Unit {0})) → ((q : Layout) → Moves p q → Post (λ u z. R z) (h q))
      → Post (λ u q. R q)
      (goes_on (lay_params 0 g.source.params g p)
      (λ u. λ q. goes_on (lay_globals 0 g.source.globals g q)
      (λ u. λ z. goes_on (lay_locals 0 g.source.locals g z)
      (λ u. λ y. goes_on (lay_literals g.found.literals y)
      (λ u. λ w. goes_on (levels g.source.reach 0 (len z) g w) (λ u. h))))))
  entry_then p R h k =
      chained (λ u q. Moves p q) (λ u q. R q) (lay_params 0 g.source.params g p)
      (λ u. λ q. goes_on (lay_globals 0 g.source.globals g q)
      (λ u. λ z. goes_on (lay_locals 0 g.source.locals g z)
      (λ u. λ y. goes_on (lay_literals g.found.literals y)
      (λ u. λ w. goes_on (levels g.source.reach 0 (len z) g w) (λ u. h)))))
      (params_move 0 g.source.params p)
      (λ u q a.
      chained (λ u z. Moves p z) (λ u z. R z) (lay_globals 0 g.source.globals g q)
      (λ u. λ z. goes_on (lay_locals 0 g.source.locals g z)
      (λ u. λ y. goes_on (lay_literals g.found.literals y)
      (λ u. λ w. goes_on (levels g.source.reach 0 (len z) g w) (λ u. h))))
      (moved p q (lay_globals 0 g.source.globals g q) a (globals_move 0 g.source.globals q))
      (λ u z b.
      chained (λ u y. Moves p y) (λ u y. R y) (lay_locals 0 g.source.locals g z)
      (λ u. λ y. goes_on (lay_literals g.found.literals y)
      (λ u. λ w. goes_on (levels g.source.reach 0 (len z) g w) (λ u. h)))
      (moved p z (lay_locals 0 g.source.locals g z) b (locals_move 0 g.source.locals z))
      (λ u y c.
      chained (λ u w. Moves p w) (λ u w. R w) (lay_literals g.found.literals y)
      (λ u. λ w. goes_on (levels g.source.reach 0 (len z) g w) (λ u. h))
      (moved p y (lay_literals g.found.literals y) c (literals_move g.found.literals y))
      (λ u w d.
      chained (λ u v. Moves p v) (λ u v. R v) (levels g.source.reach 0 (len z) g w) (λ u. h)
      (moved p w (levels g.source.reach 0 (len z) g w) d (levels_move g.source.reach 0 (len z) w))
      (λ u v e. k v e)))))

  -- Objects of calls.

  abbrev pub occurrence : Layout → ℕ → Occurrence
  occurrence p k = slice_index_or p.occurrences k no_occurrence

  -- each call's object is its own, and from call n on objects have no bits
  pub record Apart (n : ℕ) (p : Layout) : Type 0 where
    pub low : (i : ℕ) → i < len p → (bare (location p i)).root ≤ i
    pub inside : (j a : ℕ) → j < length p.occurrences → (occurrence p j).object ≡ Some a → a < len p
    pub apart : (i j a : ℕ) → i < j → j < length p.occurrences → (occurrence p i).object ≡ Some a → (occurrence p j).object ≡ Some a → ⊥
    pub fresh : (j a i : ℕ) → n ≤ j → j < length p.occurrences → (occurrence p j).object ≡ Some a → i < len p
        → (bare (location p i)).root ≡ a → (bare (location p i)).bit ≡ None

  low_moves : (p q : Layout) → Moves p q → ((i : ℕ) → i < len p → (bare (location p i)).root ≤ i)
      → (i : ℕ) → i < len q → (bare (location q i)).root ≤ i
  low_moves p q a low i less =
      ⊎_elim
      (λ (old : i < len p). subst (λ l. l.root ≤ i) (a.grows.same i old) (low i old))
      (λ (new : len p ≤ i). a.high i new less)
      (cases_lt i (len p))

  pub apart_moves : (n : ℕ) (p q : Layout) → Moves p q → Apart n p → Apart n q
  apart_moves n p q a is = record {
    low = low_moves p q a is.low;
    inside = λ j b less e.
        omega (
          arith,
          a.grows.longer,
          is.inside j b (subst (λ (os : List Occurrence). j < length os) a.same.occurrences less)
              (subst (λ (os : List Occurrence). (slice_index_or os j no_occurrence).object ≡ Some b) a.same.occurrences e),
        );
    apart = λ i j b less inside d e.
        is.apart i j b less (subst (λ (os : List Occurrence). j < length os) a.same.occurrences inside)
        (subst (λ (os : List Occurrence). (slice_index_or os i no_occurrence).object ≡ Some b) a.same.occurrences d)
        (subst (λ (os : List Occurrence). (slice_index_or os j no_occurrence).object ≡ Some b) a.same.occurrences e);
    fresh = λ j b i later less e high root_is.
        let less' : j < length p.occurrences = subst (λ (os : List Occurrence). j < length os) a.same.occurrences less in
        let e' : (occurrence p j).object ≡ Some b =
        subst (λ (os : List Occurrence). (slice_index_or os j no_occurrence).object ≡ Some b) a.same.occurrences e in
        ⊎_elim
        (λ (old : i < len p).
        subst (λ l. l.bit ≡ None) (a.grows.same i old)
        (is.fresh j b i later less' e' old (ap (λ (l : Location). l.root) (a.grows.same i old) ∙ root_is)))
        (λ (new : len p ≤ i). absurd (omega (arith, a.low i new high, root_is, is.inside j b less' e')))
        (cases_lt i (len p));
  }
