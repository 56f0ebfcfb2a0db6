-- Steps of walks.
use Rattle.std.proofs.Common.{◌≡◌, ◌⊎◌, ℕ, ◌+◌, ◌<◌, ◌≤◌, nat_eq, Bool, true, false, not, ◌&&◌, ◌||◌, List, [], ◌∷◌, ◌++◌, length, inl, inr, refl, sym, ◌∙◌, ap, subst, arith}
use Rattle.std.specs.Prelude.{Ok, if◌then◌else◌}
use Rattle.std.specs.List.{list_any}
use Rattle.std.proofs.lemmas.Bool.{cases_lt, true≢false, or_cases, or_left, or_right, or_parts, and_right, eqb-true, eq-eqb, ne_eqb, not-false}
use Rattle.bit_net.specs.declared.nodes.Node.{Node}
use Rattle.bit_net.specs.Runs.{Grown, Gives}
use Rattle.bit_words.specs.declared.Word.{Word}
use Rattle.gl_sets.specs.declared.pairs.Pair.{Pair}
use Rattle.gl_sets.specs.declared.sets.Set.{Set}
use Rattle.gl_sets.specs.Guards.{held}
use Rattle.gl_store.specs.declared.values.Val.TheVariants as val
use Rattle.gl_store.specs.Meets.{Meets}
use Rattle.run_store.specs.declared.Flag.TheVariants as flag
use Rattle.run_store.specs.Concrete.{Cell, Number, Pointer, Nothing}
use Rattle.sc_world.specs.Layout.{location, is_pointer_cell}
use Rattle.sc_world.specs.World.{bit_at, target_of}
use Rattle.sc_world.specs.Shows.{Over, cell_leads, cell_now, has, is_among, is_it, numbers, object_of, root_at}
use Rattle.run_world.specs.Seen.{env}
use Rattle.walk_laws.proofs.Counting.{among_range, range_among}
use Rattle.fn_facts.specs.declared.around.Around.{Around}
use Rattle.fn_facts.specs.Seen.{over}
use Rattle.fn_facts.specs.Showing.{ShowsAtExit}
use Rattle.fn_walks.specs.declared.roots.From.{From}
use Rattle.fn_walks.specs.Seen.{any_below, begins_behind, is_somewhere, leads, leads_to}
use Rattle.fn_walks.specs.Walks.{Covers, CoversBelow, IsCovered, IsNowhere, NeverLeads}
use Rattle.fn_walks.proofs.Rooting.{below_some, same_truth, some_below}

-- The cell of a location leads from its object to another one.

pub no_pointer_leads : (a : Around) (ns : List Node) (from to at g : ℕ) → is_pointer_cell (location (env a.here).layout at) ≡ false
    → Gives ns g (λ choice v. false) → ShowsAtExit a ns (λ o. cell_leads o from to at) g
no_pointer_leads a ns from to at g none gives =
    record {
      below = gives.below;
      value = λ bits v c w runs t.
          (let o = over a bits (Ok c) w in
          gives.value (bit_at bits) v runs ∙ sym (ap (λ b. b && (nat_eq (root_at o at) from && is_it to (object_of o (cell_now o at)))) none));
    }

pub other_leads : (a : Around) (ns : List Node) (from to at root g : ℕ) → root ≡ (location (env a.here).layout at).root → (root ≡ from → ⊥)
    → Gives ns g (λ choice v. false) → ShowsAtExit a ns (λ o. cell_leads o from to at) g
other_leads a ns from to at root g same differs gives =
    record {
      below = gives.below;
      value = λ bits v c w runs t.
          (let o = over a bits (Ok c) w in
          let pointer = is_pointer_cell (location (env a.here).layout at) in
          let other = ne_eqb (root_at o at) from (λ e. differs (same ∙ e)) in
          gives.value (bit_at bits) v runs
          ∙ sym (ap (λ b. pointer && (b && is_it to (object_of o (cell_now o at)))) other ∙ and_right pointer false refl));
    }

pub own_leads : (a : Around) (ns : List Node) (from to at root g : ℕ) → is_pointer_cell (location (env a.here).layout at) ≡ true
    → root ≡ (location (env a.here).layout at).root → root ≡ from → ShowsAtExit a ns (λ o. leads_to o (cell_now o at) to) g
    → ShowsAtExit a ns (λ o. cell_leads o from to at) g
unfolding leads_to
own_leads a ns from to at root g is same own s =
    record {
      below = s.below;
      value = λ bits v c w runs t.
          (let o = over a bits (Ok c) w in
          s.value bits v c w runs t
          ∙ sym (ap (λ b. b && (nat_eq (root_at o at) from && is_it to (object_of o (cell_now o at)))) is
          ∙ ap (λ b. b && is_it to (object_of o (cell_now o at))) (eq-eqb (root_at o at) from (sym same ∙ own))));
    }

-- An object leads to another one.

pub any_of : (f : ℕ → Bool) (ks : List ℕ) → list_any f ks ≡ true → (k : ℕ) × (is_among ks k ≡ true) × (f k ≡ true)
any_of f [] h = absurd (true≢false (sym h))
any_of f (k ∷ ks) h = by (λ e. any_of f ks e) (or_cases (f k) (list_any f ks) h)
  where
    by : (list_any f ks ≡ true → (j : ℕ) × (is_among ks j ≡ true) × (f j ≡ true)) → (f k ≡ true) ⊎ (list_any f ks ≡ true)
        → (j : ℕ) × (is_among (k ∷ ks) j ≡ true) × (f j ≡ true)
    by rest (inl e) = (k, or_left (nat_eq k k) (is_among ks k) (eq-eqb k k refl), e)
    by rest (inr e) = let r = rest e in (r.0, or_right (nat_eq r.0 k) (is_among ks r.0) r.1, r.2)

pub of_any : (f : ℕ → Bool) (ks : List ℕ) (k : ℕ) → is_among ks k ≡ true → f k ≡ true → list_any f ks ≡ true
of_any f [] k i h = absurd (true≢false (sym i))
of_any f (j ∷ ks) k i h = by (λ e. of_any f ks k e h) (or_cases (nat_eq k j) (is_among ks k) i)
  where
    by : (is_among ks k ≡ true → list_any f ks ≡ true) → (nat_eq k j ≡ true) ⊎ (is_among ks k ≡ true) → (f j || list_any f ks) ≡ true
    by rest (inl e) = or_left (f j) (list_any f ks) (ap f (sym (eqb-true k j e)) ∙ h)
    by rest (inr e) = or_right (f j) (list_any f ks) (rest e)

pub any_number : (f : Over → ℕ → Bool) (o : Over) → any_below f o (length o.layout.locations) ≡ list_any (f o) (numbers o)
any_number f o =
    same_truth (any_below f o (length o.layout.locations)) (list_any (f o) (numbers o))
    (λ h. (let r = some_below f o (length o.layout.locations) h in
    of_any (f o) (numbers o) r.0 (among_range 0 (length o.layout.locations) r.0 (omega arith) (omega (arith, r.1))) r.2))
    (λ h. (let r = any_of (f o) (numbers o) h in
    below_some f o (length o.layout.locations) r.0 (omega (arith, (range_among 0 (length o.layout.locations) r.0 r.1).1)) r.2))

pub step_shown : (a : Around) (n1 ns1 ns : List Node) (from to some freed there g : ℕ) → Grown n1 ns1 → Grown ns1 ns
    → ShowsAtExit a n1 (λ o. any_below (λ p k. cell_leads p from to k) o (length (env a.here).layout.locations)) some
    → ShowsAtExit a n1 (λ o. has o flag.Freed from) freed → Gives ns1 there (λ choice v. not (v freed))
    → Gives ns g (λ choice v. v there && v some) → ShowsAtExit a ns (λ o. leads o from to) g
unfolding leads
step_shown a n1 ns1 ns from to some freed there g g1 g2 ss sf gt gives =
    record {
      below = gives.below;
      value = λ bits v c w runs t.
          (let o = over a bits (Ok c) w in
          let r2 = g2.runs (bit_at bits) v runs in
          let r1 = g1.runs (bit_at bits) v r2 in
          gives.value (bit_at bits) v runs
          ∙ (ap (λ b. b && v some) (gt.value (bit_at bits) v r2 ∙ ap not (sf.value bits v c w r1 t))
          ∙ ap (λ b. not (has o flag.Freed from) && b) (ss.value bits v c w r1 t ∙ any_number (λ p k. cell_leads p from to k) o)));
    }

-- Values that lead nowhere.

pub word_nowhere : (word : Word) → IsNowhere (val.Word word)
word_nowhere word = λ v c m. by v c m
  where
    by : (v : ℕ → Bool) (c : Cell) → Meets v (val.Word word) c → target_of c ≡ 0
    by v (Number width n) m = refl
    by v (Pointer t) m = absurd m
    by v Nothing m = absurd m

pub unit_nowhere : IsNowhere val.Unit
unit_nowhere = λ v c m. by v c m
  where
    by : (v : ℕ → Bool) (c : Cell) → Meets v val.Unit c → target_of c ≡ 0
    by v (Number width n) m = absurd m
    by v (Pointer t) m = absurd m
    by v Nothing m = refl

first_number : List ℕ → ℕ
first_number [] = 0
first_number (x ∷ xs) = x

first_held : (v : ℕ → Bool) (ps : List Pair) (t : ℕ) (rest : List ℕ) → list_any is_somewhere ps ≡ false → held v ps ≡ t ∷ rest → t ≡ 0
unfolding held first_number
first_held v [] t rest none h = absurd (cc)
first_held v (p ∷ ps) t rest none h =
    let parts = or_parts (is_somewhere p) (list_any is_somewhere ps) none in
    by (λ e. first_held v ps t rest parts.1 e) parts.0 (v p.guard.at) h
  where
    by : (held v ps ≡ t ∷ rest → t ≡ 0) → is_somewhere p ≡ false → (b : Bool) → (if b then p.target ∷ held v ps else held v ps) ≡ t ∷ rest → t ≡ 0
    by before zero_target true e = sym (ap first_number e) ∙ eqb-true p.target 0 (not-false (nat_eq p.target 0) zero_target)
    by before zero_target false e = before e

pub set_nowhere : (s : Set) → list_any is_somewhere s.pairs.items ≡ false → IsNowhere (val.Set s)
set_nowhere s none = λ v c m. by v c m
  where
    by : (v : ℕ → Bool) (c : Cell) → Meets v (val.Set s) c → target_of c ≡ 0
    by v (Number width n) m = absurd m
    by v (Pointer t) m = first_held v s.pairs.items t [] none m.one
    by v Nothing m = absurd m

pub ruleset target_laws = (word_nowhere, unit_nowhere, set_nowhere)

-- Objects through which walks may lead.

pub passed_no_pointer : (a : Around) (f : From) (ms : List ℕ) (at : ℕ) → is_pointer_cell (location (env a.here).layout at) ≡ false → IsCovered a f ms at
passed_no_pointer a f ms at none = λ pointer. absurd (true≢false (sym pointer ∙ none))

pub passed_nowhere : (a : Around) (f : From) (ms : List ℕ) (at : ℕ) → NeverLeads a at → IsCovered a f ms at
passed_nowhere a f ms at never = λ pointer. inl (inl never)

pub passed_behind : (a : Around) (f : From) (ms : List ℕ) (at root : ℕ) → root ≡ (location (env a.here).layout at).root
    → begins_behind (env a.here).layout f.beside root ≡ true → IsCovered a f ms at
passed_behind a f ms at root is begins = λ pointer. inl (inr (ap (begins_behind (env a.here).layout f.beside) (sym is) ∙ begins))

pub passed_among : (a : Around) (f : From) (ms : List ℕ) (at root : ℕ) → root ≡ (location (env a.here).layout at).root → is_among ms root ≡ true
    → IsCovered a f ms at
passed_among a f ms at root is among = λ pointer. inr (ap (is_among ms) (sym is) ∙ among)

among_push : (ms : List ℕ) (m n : ℕ) → is_among ms n ≡ true → is_among (ms ++ m ∷ []) n ≡ true
among_push [] m n h = absurd (true≢false (sym h))
among_push (x ∷ xs) m n h = by (λ e. among_push xs m n e) (or_cases (nat_eq n x) (is_among xs n) h)
  where
    by : (is_among xs n ≡ true → is_among (xs ++ m ∷ []) n ≡ true) → (nat_eq n x ≡ true) ⊎ (is_among xs n ≡ true)
        → (nat_eq n x || is_among (xs ++ m ∷ []) n) ≡ true
    by rest (inl e) = or_left (nat_eq n x) (is_among (xs ++ m ∷ []) n) e
    by rest (inr e) = or_right (nat_eq n x) (is_among (xs ++ m ∷ []) n) (rest e)

pushed_among : (ms : List ℕ) (m : ℕ) → is_among (ms ++ m ∷ []) m ≡ true
pushed_among [] m = or_left (nat_eq m m) false (eq-eqb m m refl)
pushed_among (x ∷ xs) m = or_right (nat_eq m x) (is_among (xs ++ m ∷ []) m) (pushed_among xs m)

covered_more : (a : Around) (f : From) (ms : List ℕ) (m at : ℕ) → IsCovered a f ms at → IsCovered a f (ms ++ m ∷ []) at
covered_more a f ms m at h = λ pointer. by (h pointer)
  where
    by : (NeverLeads a at ⊎ (begins_behind (env a.here).layout f.beside (location (env a.here).layout at).root ≡ true))
        ⊎ (is_among ms (location (env a.here).layout at).root ≡ true)
        → (NeverLeads a at ⊎ (begins_behind (env a.here).layout f.beside (location (env a.here).layout at).root ≡ true))
        ⊎ (is_among (ms ++ m ∷ []) (location (env a.here).layout at).root ≡ true)
    by (inl x) = inl x
    by (inr x) = inr (among_push ms m (location (env a.here).layout at).root x)

pub covers_none : (a : Around) (f : From) (ms : List ℕ) → CoversBelow a f ms 0
covers_none a f ms = record { covers = λ at low. absurd (omega (arith, low)) }

one_more : (a : Around) (f : From) (ms : List ℕ) (k : ℕ) → ((at : ℕ) → at < k → IsCovered a f ms at) → IsCovered a f ms k → CoversBelow a f ms (k + 1)
one_more a f ms k before here = record { covers = λ at low. by at (cases_lt at k) low }
  where
    by : (at : ℕ) → (at < k) ⊎ (k ≤ at) → at < k + 1 → IsCovered a f ms at
    by at (inl less) low = before at less
    by at (inr high) low = let same : k ≡ at = omega (arith, high, low) in subst (λ n. IsCovered a f ms n) same here

pub covers_passed : (a : Around) (f : From) (ms : List ℕ) (k : ℕ) → CoversBelow a f ms k → IsCovered a f ms k → CoversBelow a f ms (k + 1)
covers_passed a f ms k h here = one_more a f ms k h.covers here

pub covers_pushed : (a : Around) (f : From) (ms new : List ℕ) (k m : ℕ) → new ≡ ms ++ m ∷ [] → m ≡ (location (env a.here).layout k).root
    → CoversBelow a f ms k → CoversBelow a f new (k + 1)
covers_pushed a f ms new k m pushed root h =
    subst (λ (l : List ℕ). CoversBelow a f l (k + 1)) (sym pushed)
    (one_more a f (ms ++ m ∷ []) k (λ at low. covered_more a f ms m at (h.covers at low))
    (λ pointer. inr (ap (is_among (ms ++ m ∷ [])) (sym root) ∙ pushed_among ms m)))

pub covers_done : (a : Around) (f : From) (ms : List ℕ) (k : ℕ) → length (env a.here).layout.locations ≤ k → CoversBelow a f ms k → Covers a f ms
covers_done a f ms k all h = record { covers = λ at low. h.covers at (omega (arith, low, all)) }
