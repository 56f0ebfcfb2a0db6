-- Walks of any length, and the objects that are walked to step by step.
use Rattle.std.proofs.Common.{◌≡◌, ◌⊎◌, ℕ, zero, suc, ◌+◌, ◌<◌, ◌≤◌, nat_eq, true, not, ◌&&◌, ◌||◌, List, [], ◌∷◌, length, inl, inr, refl, sym, ◌∙◌, ap, subst, arith}
use Rattle.std.specs.List.{list_any}
use Rattle.std.proofs.lemmas.List.{get_or_past}
use Rattle.std.proofs.lemmas.List.FromFn.{length-range_with_len}
use Rattle.std.proofs.lemmas.Bool.{true≢false, eqb-true, eq-eqb, cases_lt, or_cases, or_left, or_right, and_parts, and_from}
use Rattle.reach_net.specs.Walks.{Reached, is_walk, end_of}
use Rattle.run_store.specs.declared.Flag.TheVariants as flag
use Rattle.sc_world.specs.Layout.{Layout, location, nowhere, is_pointer_cell}
use Rattle.sc_world.specs.Shows.{Over, is_among, is_it, leads, cell_leads, root_at, root_if, object_of, cell_now, numbers, one_further, walked, reached, has}
use Rattle.sc_world.specs.World.{target_of}
use Rattle.walk_laws.specs.Objects.{AreLocations, HasObjects}
use Rattle.walk_laws.proofs.Counting.{AllSame, how_many, among_filter, filter_among, among_range, range_among, same_or_more, all_pass}

abbrev AreBelow : Layout → List ℕ → Type 0
AreBelow p ns = (n : ℕ) → is_among ns n ≡ true → n < length p.locations

-- Steps that lead from one of some objects.

some_leads : (o : Over) (ns : List ℕ) (n : ℕ) → list_any (λ m. leads o m n) ns ≡ true → (m : ℕ) × (is_among ns m ≡ true) × (leads o m n ≡ true)
some_leads o [] n h = absurd (true≢false (sym h))
some_leads o (m ∷ ns) n h = by (λ e. some_leads o ns n e) (or_cases (leads o m n) (list_any (λ k. leads o k n) ns) h)
  where
    by : (list_any (λ k. leads o k n) ns ≡ true → (k : ℕ) × (is_among ns k ≡ true) × (leads o k n ≡ true))
        → (leads o m n ≡ true) ⊎ (list_any (λ k. leads o k n) ns ≡ true) → (k : ℕ) × (is_among (m ∷ ns) k ≡ true) × (leads o k n ≡ true)
    by rest (inl e) = (m, or_left (nat_eq m m) (is_among ns m) (eq-eqb m m refl), e)
    by rest (inr e) = let more = rest e in (more.0, or_right (nat_eq more.0 m) (is_among ns more.0) more.1, more.2)

leads_from : (o : Over) (ns : List ℕ) (m n : ℕ) → is_among ns m ≡ true → leads o m n ≡ true → list_any (λ k. leads o k n) ns ≡ true
leads_from o [] m n i e = absurd (true≢false (sym i))
leads_from o (x ∷ xs) m n i e = by (λ j. leads_from o xs m n j e) (or_cases (nat_eq m x) (is_among xs m) i)
  where
    by : (is_among xs m ≡ true → list_any (λ k. leads o k n) xs ≡ true) → (nat_eq m x ≡ true) ⊎ (is_among xs m ≡ true)
        → (leads o x n || list_any (λ k. leads o k n) xs) ≡ true
    by rest (inl same) = or_left (leads o x n) (list_any (λ k. leads o k n) xs) (ap (λ k. leads o k n) (sym (eqb-true m x same)) ∙ e)
    by rest (inr j) = or_right (leads o x n) (list_any (λ k. leads o k n) xs) (rest j)

-- The objects one step further.

further : (o : Over) (ns : List ℕ) (n : ℕ) → is_among (one_further o ns) n ≡ true
    → (is_among ns n ≡ true) ⊎ ((m : ℕ) × (is_among ns m ≡ true) × (leads o m n ≡ true))
further o ns n h =
    let parts = among_filter (λ k. is_among ns k || list_any (λ m. leads o m k) ns) (numbers o) n h in
    by (or_cases (is_among ns n) (list_any (λ m. leads o m n) ns) parts.1)
  where
    by : (is_among ns n ≡ true) ⊎ (list_any (λ m. leads o m n) ns ≡ true)
        → (is_among ns n ≡ true) ⊎ ((m : ℕ) × (is_among ns m ≡ true) × (leads o m n ≡ true))
    by (inl e) = inl e
    by (inr e) = inr (some_leads o ns n e)

further_below : (o : Over) (ns : List ℕ) → AreBelow o.layout (one_further o ns)
further_below o ns n h =
    let parts = among_filter (λ k. is_among ns k || list_any (λ m. leads o m k) ns) (numbers o) n h in
    below_count (range_among 0 (length o.layout.locations) n parts.0).1
  where
    below_count : n < 0 + length o.layout.locations → n < length o.layout.locations
    below_count h = omega (arith, h)

is_number : (o : Over) (n : ℕ) → n < length o.layout.locations → is_among (numbers o) n ≡ true
is_number o n low = among_range 0 (length o.layout.locations) n (omega arith) (omega (arith, low))

stays : (o : Over) (ns : List ℕ) (n : ℕ) → n < length o.layout.locations → is_among ns n ≡ true → is_among (one_further o ns) n ≡ true
stays o ns n low h =
    filter_among (λ k. is_among ns k || list_any (λ m. leads o m k) ns) (numbers o) n (is_number o n low)
    (or_left (is_among ns n) (list_any (λ m. leads o m n) ns) h)

goes_on : (o : Over) (ns : List ℕ) (m n : ℕ) → n < length o.layout.locations → is_among ns m ≡ true → leads o m n ≡ true
    → is_among (one_further o ns) n ≡ true
goes_on o ns m n low h e =
    filter_among (λ k. is_among ns k || list_any (λ j. leads o j k) ns) (numbers o) n (is_number o n low)
    (or_right (is_among ns n) (list_any (λ j. leads o j n) ns) (leads_from o ns m n h e))

-- What is walked to is reached.

pub sound_by : (steps : ℕ) (o : Over) (ns : List ℕ) (t : ℕ) → is_among (walked steps o ns) t ≡ true → Reached (leads o) (is_among ns) t
sound_by zero o ns t h = record { from = t; walk = []; root = h; walks = refl; ends = refl }
sound_by (suc k) o ns t h =
    let r = sound_by k o (one_further o ns) t h in by r (further o ns r.from r.root)
  where
    by : (r : Reached (leads o) (is_among (one_further o ns)) t)
        → (is_among ns r.from ≡ true) ⊎ ((m : ℕ) × (is_among ns m ≡ true) × (leads o m r.from ≡ true)) → Reached (leads o) (is_among ns) t
    by r (inl root) = record { from = r.from; walk = r.walk; root = root; walks = r.walks; ends = r.ends }
    by r (inr (m, root, e)) =
        record { from = m; walk = r.from ∷ r.walk; root = root; walks = and_from (leads o m r.from) (is_walk (leads o) r.from r.walk) e r.walks; ends = r.ends }

-- What is reached is walked to. An object that a pointer leads to is a location.

root_below : (o : Over) → HasObjects o.layout → 0 < length o.layout.locations → (at : ℕ) → root_at o at < length o.layout.locations
root_below o objects some at = by (cases_lt at (length o.layout.locations))
  where
    by : (at < length o.layout.locations) ⊎ (length o.layout.locations ≤ at) → root_at o at < length o.layout.locations
    by (inl low) = objects.roots at low
    by (inr high) = let e : root_at o at ≡ 0 = ap (λ l. l.root) (get_or_past o.layout.locations at nowhere high) in omega (arith, e, some)

pub object_below : (o : Over) → HasObjects o.layout → 0 < length o.layout.locations → (t n : ℕ) → is_it n (root_if o t) ≡ true → n < length o.layout.locations
object_below o objects some zero n h = absurd (true≢false (sym h))
object_below o objects some (suc at) n h =
    let e : n ≡ root_at o at = eqb-true n (root_at o at) h in omega (arith, e, root_below o objects some at)

pub some_cell : (o : Over) (m n : ℕ) (ks : List ℕ) → list_any (cell_leads o m n) ks ≡ true
    → (k : ℕ) × (is_among ks k ≡ true) × (is_it n (object_of o (cell_now o k)) ≡ true)
some_cell o m n [] h = absurd (true≢false (sym h))
some_cell o m n (k ∷ ks) h = by (λ e. some_cell o m n ks e) (or_cases (cell_leads o m n k) (list_any (cell_leads o m n) ks) h)
  where
    by : (list_any (cell_leads o m n) ks ≡ true → (j : ℕ) × (is_among ks j ≡ true) × (is_it n (object_of o (cell_now o j)) ≡ true))
        → (cell_leads o m n k ≡ true) ⊎ (list_any (cell_leads o m n) ks ≡ true)
        → (j : ℕ) × (is_among (k ∷ ks) j ≡ true) × (is_it n (object_of o (cell_now o j)) ≡ true)
    by rest (inl e) =
        let own = (and_parts (is_pointer_cell (location o.layout k)) (nat_eq (root_at o k) m && is_it n (object_of o (cell_now o k))) e).1 in (
          k,
          or_left (nat_eq k k) (is_among ks k) (eq-eqb k k refl),
          (and_parts (nat_eq (root_at o k) m) (is_it n (object_of o (cell_now o k))) own).1,
        )
    by rest (inr e) = let more = rest e in (more.0, or_right (nat_eq more.0 k) (is_among ks more.0) more.1, more.2)

lead_below : (o : Over) → HasObjects o.layout → (m n : ℕ) → leads o m n ≡ true → n < length o.layout.locations
lead_below o objects m n h =
    let any = (and_parts (not (has o flag.Freed m)) (list_any (cell_leads o m n) (numbers o)) h).1 in
    let cell = some_cell o m n (numbers o) any in
    let place = (range_among 0 (length o.layout.locations) cell.0 cell.1).1 in
    object_below o objects (omega (arith, place)) (target_of (cell_now o cell.0)) n cell.2

reached_below : (o : Over) (ns : List ℕ) → HasObjects o.layout → AreBelow o.layout ns → (t : ℕ) → Reached (leads o) (is_among ns) t
    → t < length o.layout.locations
reached_below o ns objects below t r =
    subst (λ n. n < length o.layout.locations) r.ends (along r.from r.walk (below r.from r.root) r.walks)
  where
    along : (i : ℕ) (walk : List ℕ) → i < length o.layout.locations → is_walk (leads o) i walk ≡ true → end_of i walk < length o.layout.locations
    along i [] low w = low
    along i (j ∷ js) low w =
        let parts = and_parts (leads o i j) (is_walk (leads o) j js) w in along j js (lead_below o objects i j parts.0) parts.1

-- objects of which none leads further
closed_reached : (o : Over) (ns : List ℕ) → HasObjects o.layout → AllSame (is_among ns) (is_among (one_further o ns)) (numbers o)
    → (t : ℕ) → Reached (leads o) (is_among ns) t → is_among ns t ≡ true
unfolding AllSame
closed_reached o ns objects same t r = subst (λ n. is_among ns n ≡ true) r.ends (along r.from r.walk r.root r.walks)
  where
    along : (i : ℕ) (walk : List ℕ) → is_among ns i ≡ true → is_walk (leads o) i walk ≡ true → is_among ns (end_of i walk) ≡ true
    along i [] h w = h
    along i (j ∷ js) h w =
        let parts = and_parts (leads o i j) (is_walk (leads o) j js) w in
        let low = lead_below o objects i j parts.0 in
        along j js (same j (is_number o j low) ∙ goes_on o ns i j low h parts.0) parts.1

still_there : (steps : ℕ) (o : Over) (ns : List ℕ) (t : ℕ) → t < length o.layout.locations → is_among ns t ≡ true → is_among (walked steps o ns) t ≡ true
still_there zero o ns t low h = h
still_there (suc k) o ns t low h = still_there k o (one_further o ns) t low (stays o ns t low h)

-- as many objects as steps that were taken were found, or no step leads further
complete_by : (steps : ℕ) (o : Over) (ns : List ℕ) → HasObjects o.layout → AreBelow o.layout ns
    → length o.layout.locations ≤ how_many (is_among ns) (numbers o) + steps → (t : ℕ) → Reached (leads o) (is_among ns) t
    → is_among (walked steps o ns) t ≡ true
complete_by zero o ns objects below full t r =
    all_pass (is_among ns) (numbers o) (omega (arith, length-range_with_len 0 (length o.layout.locations), full)) t
    (is_number o t (reached_below o ns objects below t r))
complete_by (suc k) o ns objects below full t r =
    by
    (λ more. complete_by k o (one_further o ns) objects (further_below o ns) (omega (arith, full, more)) t
    (record { from = r.from; walk = r.walk; root = stays o ns r.from (below r.from r.root) r.root; walks = r.walks; ends = r.ends }))
    (same_or_more (is_among ns) (is_among (one_further o ns)) (numbers o) (λ n i h. stays o ns n (is_location n i) h))
  where
    is_location : (n : ℕ) → is_among (numbers o) n ≡ true → n < length o.layout.locations
    is_location n i = omega (arith, (range_among 0 (length o.layout.locations) n i).1)

    by : (how_many (is_among ns) (numbers o) < how_many (is_among (one_further o ns)) (numbers o) → is_among (walked k o (one_further o ns)) t ≡ true)
        → AllSame (is_among ns) (is_among (one_further o ns)) (numbers o)
        ⊎ (how_many (is_among ns) (numbers o) < how_many (is_among (one_further o ns)) (numbers o))
        → is_among (walked (suc k) o ns) t ≡ true
    by rest (inl same) = still_there (suc k) o ns t (reached_below o ns objects below t r) (closed_reached o ns objects same t r)
    by rest (inr more) = rest more

pub sound : (o : Over) (ns : List ℕ) (t : ℕ) → is_among (reached o ns) t ≡ true → Reached (leads o) (is_among ns) t
sound o ns t h = sound_by (length o.layout.locations) o ns t h

-- where there are no locations no object leads to another one
nothing_leads : (o : Over) → length o.layout.locations ≡ 0 → (m n : ℕ) → leads o m n ≡ true → ⊥
nothing_leads o none m n h =
    let any = (and_parts (not (has o flag.Freed m)) (list_any (cell_leads o m n) (numbers o)) h).1 in
    let cell = some_cell o m n (numbers o) any in
    let place = (range_among 0 (length o.layout.locations) cell.0 cell.1).1 in
    absurd (omega (arith, place, none))

stays_there : (o : Over) (ns : List ℕ) → length o.layout.locations ≡ 0 → (t : ℕ) → Reached (leads o) (is_among ns) t → is_among (reached o ns) t ≡ true
stays_there o ns none t r =
    ap (λ k. is_among (walked k o ns) t) none ∙ (ap (is_among ns) (sym (ended r.from r.walk r.walks ∙ r.ends)) ∙ r.root)
  where
    ended : (i : ℕ) (walk : List ℕ) → is_walk (leads o) i walk ≡ true → i ≡ end_of i walk
    ended i [] w = refl
    ended i (j ∷ js) w = absurd (nothing_leads o none i j (and_parts (leads o i j) (is_walk (leads o) j js) w).0)

pub complete : (o : Over) (ns : List ℕ) (t : ℕ) → HasObjects o.layout → AreLocations o.layout ns → Reached (leads o) (is_among ns) t
    → is_among (reached o ns) t ≡ true
complete o ns t objects below r = by (cases_lt 0 (length o.layout.locations))
  where
    by : (0 < length o.layout.locations) ⊎ (length o.layout.locations ≤ 0) → is_among (reached o ns) t ≡ true
    by (inl some) = complete_by (length o.layout.locations) o ns objects (below some) (omega arith) t r
    by (inr none) = stays_there o ns (omega (arith, none)) t r
