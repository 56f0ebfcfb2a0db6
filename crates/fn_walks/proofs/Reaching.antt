-- The objects to which walks lead: of any length, and through those objects alone whose pointers walks do not begin with.
use Rattle.std.proofs.Common.{◌≡◌, ◌⊎◌, ℕ, zero, suc, ◌<◌, ◌≤◌, nat_eq, Bool, true, false, not, ◌&&◌, ◌||◌, List, [], ◌∷◌, ◌++◌, length, inl, inr, refl, sym, ◌∙◌, ap, subst, arith}
use Rattle.std.specs.Prelude.{Ok, map}
use Rattle.std.specs.List.{list_any}
use Rattle.std.proofs.lemmas.Bool.{cases_lt, true≢false, or_cases, or_left, or_right, and_parts, and_from, eqb-true, eq-eqb, ne_eqb}
use Rattle.bit_net.specs.declared.nodes.Gate.{Gate}
use Rattle.bit_net.specs.declared.nodes.Node.{Node}
use Rattle.bit_net.specs.Runs.{Runs, Grown, Gives}
use Rattle.bit_net.proofs.Growth.{Grown-trans}
use Rattle.reach_net.specs.Walks.{Reached, is_walk, end_of, holds_at, pointed, EachWide}
use Rattle.reach_net.specs.Reached.{IsReached}
use Rattle.run_store.specs.declared.Flag.TheVariants as flag
use Rattle.run_store.specs.Concrete.{Cell}
use Rattle.sc_world.specs.Layout.{location, is_pointer_cell}
use Rattle.sc_world.specs.World.{World, bit_at, target_of}
use Rattle.sc_world.specs.Shows as shows
use Rattle.sc_world.specs.Shows.{Over, cell_leads, cell_now, has, is_among, is_holder, is_it, is_known, numbers, object_of, result_object, root_at, root_if}
use Rattle.run_world.specs.Seen.{env}
use Rattle.walk_laws.specs.Objects.{AreLocations, HasObjects}
use Rattle.walk_laws.proofs.Counting.{range_among}
use Rattle.walk_laws.proofs.Walking.{complete, object_below, sound}
use Rattle.fn_facts.specs.declared.around.Around.{Around}
use Rattle.fn_facts.specs.Seen.{over}
use Rattle.fn_facts.specs.Showing.{ShowsAtExit, Told}
use Rattle.fn_walks.specs.declared.roots.Beside.{Beside}
use Rattle.fn_walks.specs.declared.roots.Beside.TheVariants as beside
use Rattle.fn_walks.specs.declared.roots.From.{From}
use Rattle.fn_walks.specs.declared.walking.Walk.{Walk}
use Rattle.fn_walks.specs.Seen.{any_below, begins_behind, comes_over, counts, held_here, is_beside, is_reached, leads, leads_to, roots}
use Rattle.fn_walks.specs.Walks.{AreRoots, AreSteps, Covers, Each, IsWalk, NeverLeads, nth}
use Rattle.fn_walks.proofs.Gathering.{steps_grow}
use Rattle.fn_walks.proofs.Making.{each_grows}
use Rattle.fn_walks.proofs.Rooting.{below_some, root_is, same_truth, some_below}
use Rattle.fn_walks.proofs.Stepping.{any_of}

-- Roots are objects.

roots_below : (o : Over) (f : From) → HasObjects o.layout → AreLocations o.layout (roots o f)
unfolding held_here leads_to
roots_below o f objects =
    λ some n h. by some n
    (or_cases (f.result && is_it n (result_object o)) (any_below (held_here f.beside n) o (length o.layout.locations))
    (sym (root_is o f n) ∙ h))
  where
    by : 0 < length o.layout.locations → (n : ℕ)
        → ((f.result && is_it n (result_object o)) ≡ true) ⊎ (any_below (held_here f.beside n) o (length o.layout.locations) ≡ true)
        → n < length o.layout.locations
    by some n (inl e) = object_below o objects some (target_of (shows.result_cell o.ended)) n (and_parts f.result (is_it n (result_object o)) e).1
    by some n (inr e) =
        let r = some_below (held_here f.beside n) o (length o.layout.locations) e in
        let rest = (and_parts (is_holder o r.0) (counts o f.beside r.0 && is_it n (object_of o (cell_now o r.0))) r.2).1 in
        object_below o objects some (target_of (cell_now o r.0)) n (and_parts (counts o f.beside r.0) (is_it n (object_of o (cell_now o r.0))) rest).1

reached_is : (o : Over) (f : From) (n : ℕ) → HasObjects o.layout → Reached (shows.leads o) (is_among (roots o f)) n → is_reached o f n ≡ true
unfolding is_reached
reached_is o f n objects r = complete o (roots o f) n objects (roots_below o f objects) r

is_reached_so : (o : Over) (f : From) (n : ℕ) → is_reached o f n ≡ true → Reached (shows.leads o) (is_among (roots o f)) n
unfolding is_reached
is_reached_so o f n h = sound o (roots o f) n h

-- Where an object leads: from one through which walks may lead, or to one where they begin.

pub record Step (o : Over) (m n k : ℕ) : Type 0 where
  pub low : k < length o.layout.locations
  pub there : has o flag.Freed m ≡ false
  pub pointer : is_pointer_cell (location o.layout k) ≡ true
  pub root : root_at o k ≡ m
  pub leads : is_it n (object_of o (cell_now o k)) ≡ true

not_true : (b : Bool) → not b ≡ true → b ≡ false
not_true true h = absurd (true≢false (sym h))
not_true false h = refl

step_of : (o : Over) (m n : ℕ) → shows.leads o m n ≡ true → (k : ℕ) × Step o m n k
step_of o m n h =
    let parts = and_parts (not (has o flag.Freed m)) (list_any (cell_leads o m n) (numbers o)) h in
    let r = any_of (cell_leads o m n) (numbers o) parts.1 in
    let cell = and_parts (is_pointer_cell (location o.layout r.0)) (nat_eq (root_at o r.0) m && is_it n (object_of o (cell_now o r.0))) r.2 in
    let own = and_parts (nat_eq (root_at o r.0) m) (is_it n (object_of o (cell_now o r.0))) cell.1 in (
      r.0,
      record {
        low = omega (arith, (range_among 0 (length o.layout.locations) r.0 r.1).1);
        there = not_true (has o flag.Freed m) parts.0;
        pointer = cell.0;
        root = eqb-true (root_at o r.0) m own.0;
        leads = own.1;
      },
    )

-- a cell of an object that walks begin behind is a holder that counts
counts_there : (o : Over) (b : Beside) (k m : ℕ) → root_at o k ≡ m → is_beside o.layout b m ≡ false → counts o b k ≡ true
counts_there o beside.Nothing k m root aside = refl
counts_there o (beside.Object n) k m root aside =
    ap not (ne_eqb (root_at o k) n (λ e. true≢false (sym (eq-eqb n m (sym e ∙ root)) ∙ aside)))
counts_there o (beside.Cell at) k m root aside =
    ap not (ne_eqb k at (λ e. true≢false (sym (eq-eqb (root_at o at) m (ap (root_at o) (sym e) ∙ root)) ∙ aside)))

begins_there : (o : Over) (f : From) (m n k : ℕ) → Step o m n k → begins_behind o.layout f.beside m ≡ true → is_among (roots o f) n ≡ true
unfolding held_here leads_to
begins_there o f m n k s h =
    let parts = and_parts (is_known o m) (not (is_beside o.layout f.beside m)) h in
    let holder : is_holder o k ≡ true =
    and_from (is_pointer_cell (location o.layout k)) (shows.holds_objects o (root_at o k)) s.pointer
    (ap (shows.holds_objects o) s.root
    ∙ and_from (not (has o flag.Freed m)) (is_known o m || has o flag.Escaped m) (ap not s.there) (or_left (is_known o m) (has o flag.Escaped m) parts.0)) in
    let held : held_here f.beside n o k ≡ true =
    and_from (is_holder o k) (counts o f.beside k && is_it n (object_of o (cell_now o k))) holder
    (and_from (counts o f.beside k) (is_it n (object_of o (cell_now o k)))
    (counts_there o f.beside k m s.root (not_true (is_beside o.layout f.beside m) parts.1)) s.leads) in
    root_is o f n
    ∙ or_right (f.result && is_it n (result_object o)) (any_below (held_here f.beside n) o (length o.layout.locations))
    (below_some (held_here f.beside n) o (length o.layout.locations) k s.low held)

-- where an object is in a list
place_of : (ms : List ℕ) (m : ℕ) → is_among ms m ≡ true → (i : ℕ) × (i < length ms) × (nth ms i ≡ m)
place_of [] m h = absurd (true≢false (sym h))
place_of (x ∷ xs) m h = by (λ e. place_of xs m e) (or_cases (nat_eq m x) (is_among xs m) h)
  where
    by : (is_among xs m ≡ true → (i : ℕ) × (i < length xs) × (nth xs i ≡ m)) → (nat_eq m x ≡ true) ⊎ (is_among xs m ≡ true)
        → (i : ℕ) × (i < suc (length xs)) × (nth (x ∷ xs) i ≡ m)
    by rest (inl e) = (0, omega arith, sym (eqb-true m x e))
    by rest (inr e) = let r = rest e in (suc r.0, omega (arith, r.1), r.2)

-- an object that leads to another one is one of the list, or walks begin at the other one
Through : (o : Over) (f : From) (ms : List ℕ) → Type 0
Through o f ms = (m n : ℕ) → shows.leads o m n ≡ true → ((i : ℕ) × (i < length ms) × (nth ms i ≡ m)) ⊎ (is_among (roots o f) n ≡ true)

nowhere : (o : Over) (n t : ℕ) → t ≡ 0 → is_it n (root_if o t) ≡ true → ⊥
nowhere o n t e h = true≢false (sym h ∙ ap (λ k. is_it n (root_if o k)) e)

through_covers : (a : Around) (f : From) (ms : List ℕ) → Covers a f ms → (bits : List Bool) (v : ℕ → Bool) (c : Cell) (w : World)
    → Told a v bits (Ok c) w → Through (over a bits (Ok c) w) f ms
unfolding Through
through_covers a f ms covers bits v c w t = λ m n h. by m n (step_of (over a bits (Ok c) w) m n h)
  where
    so : (m n k : ℕ) → Step (over a bits (Ok c) w) m n k
        → (NeverLeads a k ⊎ (begins_behind (env a.here).layout f.beside (location (env a.here).layout k).root ≡ true))
        ⊎ (is_among ms (location (env a.here).layout k).root ≡ true)
        → ((i : ℕ) × (i < length ms) × (nth ms i ≡ m)) ⊎ (is_among (roots (over a bits (Ok c) w) f) n ≡ true)
    so m n k s (inl (inl never)) =
        absurd
        (nowhere (over a bits (Ok c) w) n (target_of (cell_now (over a bits (Ok c) w) k)) (never v w.places t.tells.1) s.leads)
    so m n k s (inl (inr begins)) =
        inr (begins_there (over a bits (Ok c) w) f m n k s (ap (begins_behind (env a.here).layout f.beside) (sym s.root) ∙ begins))
    so m n k s (inr among) = inl (place_of ms m (ap (is_among ms) (sym s.root) ∙ among))

    by : (m n : ℕ) → (k : ℕ) × Step (over a bits (Ok c) w) m n k
        → ((i : ℕ) × (i < length ms) × (nth ms i ≡ m)) ⊎ (is_among (roots (over a bits (Ok c) w) f) n ≡ true)
    by m n (k, s) = so m n k s (covers.covers k s.low s.pointer)

-- Walks by the places of a list are walks.

module _ (o : Over) (f : From) (ms : List ℕ) (points : ℕ → ℕ → Bool) (starts : ℕ → Bool) (found : ℕ → Bool) where
  -- what the gates tell of the objects of the list
  pub record Gated : Type 0 where
    pub within : (i j : ℕ) → points i j ≡ true → (i < length ms) × (j < length ms)
    pub steps : (i j : ℕ) → i < length ms → j < length ms → points i j ≡ shows.leads o (nth ms i) (nth ms j)
    pub start_within : (i : ℕ) → starts i ≡ true → i < length ms
    pub start : (i : ℕ) → i < length ms → starts i ≡ is_among (roots o f) (nth ms i)
    pub sound : (i : ℕ) → found i ≡ true → Reached points starts i
    pub complete : (i : ℕ) → Reached points starts i → found i ≡ true
    pub through : (m n : ℕ) → shows.leads o m n ≡ true → ((i : ℕ) × (i < length ms) × (nth ms i ≡ m)) ⊎ (is_among (roots o f) n ≡ true)

  -- walks begin at an object, or lead to one of the list that leads to it
  abbrev Comes : ℕ → Type 0
  Comes n = (is_among (roots o f) n ≡ true) ⊎ ((i : ℕ) × (i < length ms) × (found i ≡ true) × (shows.leads o (nth ms i) n ≡ true))

  one_step : (i j : ℕ) → Reached points starts i → points i j ≡ true → Reached points starts j
  one_step i j r h =
      record {
        from = r.from;
        walk = r.walk ++ j ∷ [];
        root = r.root;
        walks = walks_on r.from r.walk r.walks (subst (λ (k : ℕ). points k j ≡ true) (sym r.ends) h);
        ends = ends_on r.from r.walk;
      }
    where
      walks_on : (k : ℕ) (walk : List ℕ) → is_walk points k walk ≡ true → points (end_of k walk) j ≡ true → is_walk points k (walk ++ j ∷ []) ≡ true
      walks_on k [] w e = and_from (points k j) true e refl
      walks_on k (x ∷ xs) w e =
          let parts = and_parts (points k x) (is_walk points x xs) w in
          and_from (points k x) (is_walk points x (xs ++ j ∷ [])) parts.0 (walks_on x xs parts.1 e)

      ends_on : (k : ℕ) (walk : List ℕ) → end_of k (walk ++ j ∷ []) ≡ j
      ends_on k [] = refl
      ends_on k (x ∷ xs) = ends_on x xs

  found_there : Gated → (i : ℕ) → i < length ms → Comes (nth ms i) → found i ≡ true
  found_there g i low (inl root) =
      g.complete i (record { from = i; walk = []; root = g.start i low ∙ root; walks = refl; ends = refl })
  found_there g i low (inr (j, less, here, h)) = g.complete i (one_step j i (g.sound j here) (g.steps j i less low ∙ h))

  comes_on : Gated → (m n : ℕ) → Comes m → shows.leads o m n ≡ true → Comes n
  comes_on g m n come h = by (g.through m n h)
    where
      by : ((i : ℕ) × (i < length ms) × (nth ms i ≡ m)) ⊎ (is_among (roots o f) n ≡ true) → Comes n
      by (inr root) = inl root
      by (inl (i, low, here)) =
          inr (i, low, found_there g i low (subst (λ (k : ℕ). Comes k) (sym here) come), ap (λ k. shows.leads o k n) here ∙ h)

  pub comes_if : Gated → (n : ℕ) → Reached (shows.leads o) (is_among (roots o f)) n → Comes n
  comes_if g n r = subst (λ (k : ℕ). Comes k) r.ends (along r.from r.walk (inl r.root) r.walks)
    where
      along : (m : ℕ) (walk : List ℕ) → Comes m → is_walk (shows.leads o) m walk ≡ true → Comes (end_of m walk)
      along m [] come w = come
      along m (x ∷ xs) come w =
          let parts = and_parts (shows.leads o m x) (is_walk (shows.leads o) x xs) w in along x xs (comes_on g m x come parts.0) parts.1

  -- a walk by places, as one by objects
  walk_of : Gated → (i : ℕ) → Reached points starts i → Reached (shows.leads o) (is_among (roots o f)) (nth ms i)
  walk_of g i r =
      record {
        from = nth ms r.from;
        walk = map (nth ms) r.walk;
        root = sym (g.start r.from (g.start_within r.from r.root)) ∙ r.root;
        walks = walks_so r.from r.walk r.walks;
        ends = ends_so r.from r.walk ∙ ap (nth ms) r.ends;
      }
    where
      walks_so : (k : ℕ) (walk : List ℕ) → is_walk points k walk ≡ true → is_walk (shows.leads o) (nth ms k) (map (nth ms) walk) ≡ true
      walks_so k [] w = refl
      walks_so k (x ∷ xs) w =
          let parts = and_parts (points k x) (is_walk points x xs) w in
          let low = g.within k x parts.0 in
          and_from (shows.leads o (nth ms k) (nth ms x)) (is_walk (shows.leads o) (nth ms x) (map (nth ms) xs))
          (sym (g.steps k x low.0 low.1) ∙ parts.0) (walks_so x xs parts.1)

      ends_so : (k : ℕ) (walk : List ℕ) → end_of (nth ms k) (map (nth ms) walk) ≡ nth ms (end_of k walk)
      ends_so k [] = refl
      ends_so k (x ∷ xs) = ends_so x xs

  pub found_is : HasObjects o.layout → Gated → (i : ℕ) → i < length ms → found i ≡ is_reached o f (nth ms i)
  found_is objects g i low =
      same_truth (found i) (is_reached o f (nth ms i)) (λ h. reached_is o f (nth ms i) objects (walk_of g i (g.sound i h)))
      (λ h. found_there g i low (comes_if g (nth ms i) (is_reached_so o f (nth ms i) h)))

-- Walks that lead to an object lead to one of the list that leads to it.

reached_on : (o : Over) (f : From) (m n : ℕ) → HasObjects o.layout → is_reached o f m ≡ true → shows.leads o m n ≡ true → is_reached o f n ≡ true
reached_on o f m n objects h e =
    let r = is_reached_so o f m h in
    reached_is o f n objects
    (record {
      from = r.from;
      walk = r.walk ++ n ∷ [];
      root = r.root;
      walks = walks_on r.from r.walk r.walks (subst (λ (k : ℕ). shows.leads o k n ≡ true) (sym r.ends) e);
      ends = ends_on r.from r.walk;
    })
  where
    walks_on : (k : ℕ) (walk : List ℕ) → is_walk (shows.leads o) k walk ≡ true → shows.leads o (end_of k walk) n ≡ true
        → is_walk (shows.leads o) k (walk ++ n ∷ []) ≡ true
    walks_on k [] w e = and_from (shows.leads o k n) true e refl
    walks_on k (x ∷ xs) w e =
        let parts = and_parts (shows.leads o k x) (is_walk (shows.leads o) x xs) w in
        and_from (shows.leads o k x) (is_walk (shows.leads o) x (xs ++ n ∷ [])) parts.0 (walks_on x xs parts.1 e)

    ends_on : (k : ℕ) (walk : List ℕ) → end_of k (walk ++ n ∷ []) ≡ n
    ends_on k [] = refl
    ends_on k (x ∷ xs) = ends_on x xs

root_reached : (o : Over) (f : From) (n : ℕ) → HasObjects o.layout → is_among (roots o f) n ≡ true → is_reached o f n ≡ true
root_reached o f n objects h = reached_is o f n objects (record { from = n; walk = []; root = h; walks = refl; ends = refl })

-- the last step of a walk: from an object to which another one leads
last_step : (o : Over) (f : From) (ms : List ℕ) → HasObjects o.layout → Through o f ms → (n : ℕ) → is_reached o f n ≡ true
    → (is_among (roots o f) n ≡ true) ⊎ (any_below (comes_over f ms n) o (length ms) ≡ true)
unfolding Through comes_over leads
last_step o f ms objects through n h =
    let r = is_reached_so o f n h in
    subst (λ (k : ℕ). (is_among (roots o f) k ≡ true) ⊎ (any_below (comes_over f ms k) o (length ms) ≡ true)) r.ends
    (along r.from r.walk (inl r.root) (root_reached o f r.from objects r.root) r.walks)
  where
    over_step : (m x : ℕ) → is_reached o f m ≡ true → shows.leads o m x ≡ true
        → ((i : ℕ) × (i < length ms) × (nth ms i ≡ m)) ⊎ (is_among (roots o f) x ≡ true)
        → (is_among (roots o f) x ≡ true) ⊎ (any_below (comes_over f ms x) o (length ms) ≡ true)
    over_step m x here e (inr root) = inl root
    over_step m x here e (inl (i, low, place)) =
        inr (below_some (comes_over f ms x) o (length ms) i low
        (and_from (is_reached o f (nth ms i)) (shows.leads o (nth ms i) x) (ap (is_reached o f) place ∙ here) (ap (λ k. shows.leads o k x) place ∙ e)))

    along : (m : ℕ) (walk : List ℕ) → (is_among (roots o f) m ≡ true) ⊎ (any_below (comes_over f ms m) o (length ms) ≡ true)
        → is_reached o f m ≡ true → is_walk (shows.leads o) m walk ≡ true
        → (is_among (roots o f) (end_of m walk) ≡ true) ⊎ (any_below (comes_over f ms (end_of m walk)) o (length ms) ≡ true)
    along m [] come here w = come
    along m (x ∷ xs) come here w =
        let parts = and_parts (shows.leads o m x) (is_walk (shows.leads o) x xs) w in
        along x xs (over_step m x here parts.0 (through m x parts.0)) (reached_on o f m x objects here parts.0) parts.1

reach_is : (o : Over) (f : From) (ms : List ℕ) → HasObjects o.layout → Through o f ms → (n : ℕ)
    → (is_among (roots o f) n || any_below (comes_over f ms n) o (length ms)) ≡ is_reached o f n
unfolding comes_over leads
reach_is o f ms objects through n =
    same_truth (is_among (roots o f) n || any_below (comes_over f ms n) o (length ms)) (is_reached o f n)
    (λ h. by (or_cases (is_among (roots o f) n) (any_below (comes_over f ms n) o (length ms)) h))
    (λ h. back (last_step o f ms objects through n h))
  where
    by : (is_among (roots o f) n ≡ true) ⊎ (any_below (comes_over f ms n) o (length ms) ≡ true) → is_reached o f n ≡ true
    by (inl root) = root_reached o f n objects root
    by (inr come) =
        let r = some_below (comes_over f ms n) o (length ms) come in
        let parts = and_parts (is_reached o f (nth ms r.0)) (shows.leads o (nth ms r.0) n) r.2 in
        reached_on o f (nth ms r.0) n objects parts.0 parts.1

    back : (is_among (roots o f) n ≡ true) ⊎ (any_below (comes_over f ms n) o (length ms) ≡ true)
        → (is_among (roots o f) n || any_below (comes_over f ms n) o (length ms)) ≡ true
    back (inl root) = or_left (is_among (roots o f) n) (any_below (comes_over f ms n) o (length ms)) root
    back (inr come) = or_right (is_among (roots o f) n) (any_below (comes_over f ms n) o (length ms)) come

-- Gates.

holds_past : (v : ℕ → Bool) (gs : List Gate) (i : ℕ) → length gs ≤ i → holds_at v gs i ≡ false
unfolding holds_at
holds_past v [] i high = refl
holds_past v (g ∷ gs) zero high = absurd (omega (arith, high))
holds_past v (g ∷ gs) (suc i) high = holds_past v gs i (omega (arith, high))

holds_within : (v : ℕ → Bool) (gs : List Gate) (i : ℕ) → holds_at v gs i ≡ true → i < length gs
holds_within v gs i h = by (cases_lt i (length gs))
  where
    by : (i < length gs) ⊎ (length gs ≤ i) → i < length gs
    by (inl low) = low
    by (inr high) = absurd (true≢false (sym h ∙ holds_past v gs i high))

pointed_within : (v : ℕ → Bool) (rows : List (List Gate)) (n i j : ℕ) → EachWide n rows → pointed v rows i j ≡ true → (i < length rows) × (j < n)
unfolding pointed
pointed_within v [] n i j wide h = absurd (true≢false (sym h))
pointed_within v (r ∷ rs) n zero j wide h = (omega arith, let low = holds_within v r j h in omega (arith, low, wide.0))
pointed_within v (r ∷ rs) n (suc i) j wide h = let rest = pointed_within v rs n i j wide.1 h in (omega (arith, rest.0), rest.1)

gated : (a : Around) (ns : List Node) (f : From) (ms : List ℕ) (rows : List (List Gate)) (starts found : List Gate) → Covers a f ms
    → AreSteps a ns ms (length ms) rows → Each a ns (λ o n. is_among (roots o f) n) (nth ms) (length ms) starts → IsReached ns rows starts found
    → (bits : List Bool) (v : ℕ → Bool) (c : Cell) (w : World) → Runs ns (bit_at bits) v → Told a v bits (Ok c) w
    → Gated (over a bits (Ok c) w) f ms (pointed v rows) (holds_at v starts) (holds_at v found)
unfolding Through leads
gated a ns f ms rows starts found covers steps roots_are reached bits v c w runs t =
    record {
      within = λ i j h. (let low = pointed_within v rows (length ms) i j steps.wide h in (omega (arith, low.0, steps.each), low.1));
      steps = λ i j low less. steps.value bits v c w runs t i j low less;
      start_within = λ i h. (let low = holds_within v starts i h in omega (arith, low, roots_are.wide));
      start = λ i low. roots_are.value bits v c w runs t i low;
      sound = λ i h. reached.sound (bit_at bits) v runs i h;
      complete = λ i r. reached.complete (bit_at bits) v runs i r;
      through = through_covers a f ms covers bits v c w t;
    }

pub walk_shown : (a : Around) (n1 n2 ns : List Node) (w : Walk) (rows : List (List Gate)) (starts : List Gate) → HasObjects (env a.here).layout
    → Covers a w.from w.through.items → Grown n1 n2 → Grown n2 ns → AreSteps a n1 w.through.items (length w.through.items) rows
    → AreRoots a n2 w.from w.through.items starts → IsReached ns rows starts w.found.items → IsWalk a ns w
walk_shown a n1 n2 ns w rows starts objects covers g1 g2 steps roots_are reached =
    record {
      covers = covers;
      found = record {
        wide = reached.wide ∙ roots_are.wide;
        below = reached.below;
        value = λ bits v c x runs t i low.
            found_is (over a bits (Ok c) x) w.from w.through.items (pointed v rows) (holds_at v starts) (holds_at v w.found.items) objects
            (gated a ns w.from w.through.items rows starts w.found.items covers
            (steps_grow a n1 ns w.through.items (length w.through.items) rows (Grown-trans n1 n2 ns g1 g2) steps)
            (each_grows a n2 ns (λ o n. is_among (roots o w.from) n) (nth w.through.items) (length w.through.items) starts g2 roots_are) reached bits v c x
            runs t)
            i low;
      };
    }

pub walk_grows : (a : Around) (old ns : List Node) (w : Walk) → Grown old ns → IsWalk a old w → IsWalk a ns w
walk_grows a old ns w g h =
    record {
      covers = h.covers;
      found = record {
        wide = h.found.wide;
        below = omega (arith, h.found.below, g.longer);
        value = λ bits v c x runs t. h.found.value bits v c x (g.runs (bit_at bits) v runs) t;
      };
    }

pub over_shown : (a : Around) (old n2 ns : List Node) (w : Walk) (n i found step g : ℕ) → i < length w.through.items → IsWalk a old w → Grown old n2
    → Grown n2 ns → ((v : ℕ → Bool) → v found ≡ holds_at v w.found.items i) → ShowsAtExit a n2 (λ o. leads o (nth w.through.items i) n) step
    → Gives ns g (λ choice v. v found && v step) → ShowsAtExit a ns (λ o. comes_over w.from w.through.items n o i) g
unfolding comes_over
over_shown a old n2 ns w n i found step g low walk g1 g2 is s gives =
    record {
      below = gives.below;
      value = λ bits v c x runs t.
          (let o = over a bits (Ok c) x in
          let r2 = g2.runs (bit_at bits) v runs in
          let r1 = g1.runs (bit_at bits) v r2 in
          gives.value (bit_at bits) v runs
          ∙ (ap (λ b. b && v step) (is v ∙ walk.found.value bits v c x r1 t i low)
          ∙ ap (λ b. is_reached o w.from (nth w.through.items i) && b) (s.value bits v c x r2 t)));
    }

pub reach_shown : (a : Around) (n1 n2 ns old : List Node) (w : Walk) (n root more g : ℕ) → HasObjects (env a.here).layout → IsWalk a old w → Grown n1 n2
    → Grown n2 ns → ShowsAtExit a n1 (λ o. is_among (roots o w.from) n) root
    → ShowsAtExit a n2 (λ o. any_below (comes_over w.from w.through.items n) o (length w.through.items)) more
    → Gives ns g (λ choice v. v root || v more) → ShowsAtExit a ns (λ o. is_reached o w.from n) g
reach_shown a n1 n2 ns old w n root more g objects walk g1 g2 sr sm gives =
    record {
      below = gives.below;
      value = λ bits v c x runs t.
          (let o = over a bits (Ok c) x in
          let r2 = g2.runs (bit_at bits) v runs in
          let r1 = g1.runs (bit_at bits) v r2 in
          gives.value (bit_at bits) v runs
          ∙ (ap (λ b. b || v more) (sr.value bits v c x r1 t)
          ∙ (ap (λ b. is_among (roots o w.from) n || b) (sm.value bits v c x r2 t)
          ∙ reach_is o w.from w.through.items objects (through_covers a w.from w.through.items walk.covers bits v c x t) n)));
    }
