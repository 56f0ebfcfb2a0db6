-- Items that are at one location.
use Rattle.std.proofs.Common.{◌≡◌, ℕ, zero, suc, ◌+◌, ◌<◌, ◌≤◌, nat_eq, Bool, true, false, ◌&&◌, ◌||◌, if◌then◌else◌, List, [], ◌∷◌, ◌++◌, length, map, take, drop, get_or, refl, sym, ◌∙◌, ap, subst, arith, true≢false}
use Rattle.std.specs.Prelude.{Option, Some, None}
use Rattle.std.specs.List.{list_any}
use Rattle.std.proofs.lemmas.Bool.{eq-eqb, ne_eqb}
use Rattle.std.proofs.lemmas.List.{take_more, take_all, drop_more, drop_all}
use Rattle.bit_net.specs.declared.nodes.Node.{Node}
use Rattle.bit_net.specs.Runs.{Runs, Grown, Gives}
use Rattle.gl_sets.specs.declared.pairs.Pair.{Pair}
use Rattle.gl_sets.specs.Guards.{held}
use Rattle.gl_sets.proofs.BoolLemmas.{or_assoc, or_false, same}
use Rattle.gl_sets.proofs.PointLemmas.{guard-points}
use Rattle.sc_world.specs.Known.{meet_twice}
use Rattle.gate_paths.specs.declared.gathered.Found.{Found}
use Rattle.gate_paths.specs.Targets.{found_target}
use Rattle.gate_paths.specs.Paths.{IsFound}
use Rattle.gate_paths.specs.Gathered.{AreFound, found_list, put_locked, put_out, where_item}
use Rattle.gate_paths.specs.Alias.{Meet, MeetSome, MeetTwice, guard_at, same_place}

-- Pairs that meet a set.

unfoldable pub met : (v : ℕ → Bool) → List Pair → List Pair → Bool
met v [] b = false
met v (p ∷ ps) b = met v ps b || (v p.guard.at && guard_at v b p.target)

met_none : (v : ℕ → Bool) (ps b : List Pair) → held v ps ≡ [] → met v ps b ≡ false
unfolding met held
met_none v [] b e = refl
met_none v (p ∷ ps) b e = by (v p.guard.at) e (met_none v ps b)
  where
    by : (g : Bool) → (if g then p.target ∷ held v ps else held v ps) ≡ [] → (held v ps ≡ [] → met v ps b ≡ false)
        → (met v ps b || (g && guard_at v b p.target)) ≡ false
    by true h rest = cc
    by false h rest = or_false (met v ps b) ∙ rest h

rest_of : (x y : ℕ) (xs : List ℕ) → x ∷ xs ≡ y ∷ [] → (x ≡ y) × (xs ≡ [])
rest_of x y xs e = (cc, cc)

met_one : (v : ℕ → Bool) (ps b : List Pair) (t : ℕ) → held v ps ≡ t ∷ [] → met v ps b ≡ guard_at v b t
unfolding met held
met_one v [] b t e = cc
met_one v (p ∷ ps) b t e = by (v p.guard.at) e (met_one v ps b t)
  where
    by : (g : Bool) → (if g then p.target ∷ held v ps else held v ps) ≡ t ∷ [] → (held v ps ≡ t ∷ [] → met v ps b ≡ guard_at v b t)
        → (met v ps b || (g && guard_at v b p.target)) ≡ guard_at v b t
    by true h rest =
        let parts = rest_of p.target t (held v ps) h in
        ap (λ x. x || guard_at v b p.target) (met_none v ps b parts.1) ∙ ap (guard_at v b) parts.0
    by false h rest = or_false (met v ps b) ∙ rest h

next_turned : (m n : ℕ) → nat_eq (suc n) (suc m) ≡ nat_eq m n
next_turned m n = by (nat_eq (suc n) (suc m)) (nat_eq m n) refl refl
  where
    by : (x y : Bool) → nat_eq (suc n) (suc m) ≡ x → nat_eq m n ≡ y → nat_eq (suc n) (suc m) ≡ nat_eq m n
    by true true e f = e ∙ sym f
    by false false e f = e ∙ sym f
    by true false e f = absurd (true≢false (sym (eq-eqb m n (omega (arith, same (suc n) (suc m) e))) ∙ f))
    by false true e f = absurd (true≢false (sym (eq-eqb (suc n) (suc m) (omega (arith, same m n f))) ∙ e))

place_met : (v : ℕ → Bool) (b : List Pair) (o q : Option ℕ) → IsFound v b q → guard_at v b (found_target o) ≡ same_place o q
place_met v b None q is = refl
place_met v b (Some m) None is = guard-points v b 0 (suc m) is ∙ ne_eqb 0 (suc m) (λ h. omega (arith, h))
place_met v b (Some m) (Some n) is = guard-points v b (suc n) (suc m) is ∙ next_turned m n

-- The pairs so far.

pub met_init : (ns : List Node) (ps b : List Pair) (gate : ℕ) → Gives ns gate (λ choice v. false) → Gives ns gate (λ choice v. met v (take 0 ps) b)
unfolding met
met_init ns ps b gate gives = gives

met_more : (v : ℕ → Bool) (ps b : List Pair) (p : Pair) → met v (ps ++ p ∷ []) b ≡ (met v ps b || (v p.guard.at && guard_at v b p.target))
unfolding met
met_more v [] b p = refl
met_more v (q ∷ ps) b p =
    ap (λ x. x || (v q.guard.at && guard_at v b q.target)) (met_more v ps b p)
    ∙ changed (met v ps b) (v p.guard.at && guard_at v b p.target) (v q.guard.at && guard_at v b q.target)
  where
    changed : (x y z : Bool) → ((x || y) || z) ≡ ((x || z) || y)
    changed true y z = refl
    changed false true true = refl
    changed false true false = refl
    changed false false true = refl
    changed false false false = refl

pub met_step : (n1 n2 : List Node) (ps b : List Pair) (i : ℕ) (d : Pair) (some gate : ℕ) → i < length ps → Grown n1 n2
    → Gives n1 some (λ choice v. met v (take i ps) b)
    → Gives n2 gate (λ choice v. v some || (v (get_or ps i d).guard.at && guard_at v b (get_or ps i d).target))
    → Gives n2 gate (λ choice v. met v (take (i + 1) ps) b)
met_step n1 n2 ps b i d some gate low grown before one =
    record {
      below = one.below;
      value = λ choice v runs.
          one.value choice v runs
          ∙ ap (λ x. x || (v (get_or ps i d).guard.at && guard_at v b (get_or ps i d).target)) (before.value choice v (grown.runs choice v runs))
          ∙ sym (met_more v (take i ps) b (get_or ps i d)) ∙ ap (λ qs. met v qs b) (sym (take_more ps i d low));
    }

pub is_meet : (ns : List Node) (ps b : List Pair) (i gate : ℕ) → length ps ≤ i → Gives ns gate (λ choice v. met v (take i ps) b) → Meet ns ps b gate
is_meet ns ps b i gate high gives =
    record {
      below = gives.below;
      value = λ choice v runs o q is there.
          gives.value choice v runs ∙ ap (λ qs. met v qs b) (take_all i ps high) ∙ met_one v ps b (found_target o) is.one ∙ place_met v b o q there;
    }

-- An item and others.

some_more : (f : Option ℕ → Bool) (os : List (Option ℕ)) (q : Option ℕ) → list_any f (os ++ q ∷ []) ≡ (list_any f os || f q)
some_more f [] q = or_false (f q)
some_more f (o ∷ os) q = ap (λ x. f o || x) (some_more f os q) ∙ sym (or_assoc (f o) (list_any f os) (f q))

-- the gate tells of the first i others
pub record MeetFirst (ns : List Node) (a : List Pair) (others : List Found) (i gate : ℕ) : Type 0 where
  pub below : gate < length ns
  pub value : (choice v : ℕ → Bool) → Runs ns choice v → (o : Option ℕ) (os : List (Option ℕ)) → IsFound v a o → AreFound v where_item others os
      → v gate ≡ list_any (same_place o) (take i os)

found_wide : (v : ℕ → Bool) (fs : List Found) (os : List (Option ℕ)) → AreFound v where_item fs os → length os ≡ length fs
found_wide v [] [] h = refl
found_wide v (f ∷ fs) (o ∷ os) h = ap suc (found_wide v fs os h.1)
found_wide v [] (o ∷ os) h = absurd h
found_wide v (f ∷ fs) [] h = absurd h

found_at : (v : ℕ → Bool) (fs : List Found) (os : List (Option ℕ)) (i : ℕ) (d : Found) (e : Option ℕ) → i < length fs → AreFound v where_item fs os
    → IsFound v (where_item (get_or fs i d)) (get_or os i e)
found_at v (f ∷ fs) (o ∷ os) zero d e low h = h.0
found_at v (f ∷ fs) (o ∷ os) (suc i) d e low h = found_at v fs os i d e (omega (arith, low)) h.1
found_at v [] os i d e low h = absurd (omega (arith, low))
found_at v (f ∷ fs) [] i d e low h = absurd h

found_drop : (v : ℕ → Bool) (fs : List Found) (os : List (Option ℕ)) (i : ℕ) → AreFound v where_item fs os → AreFound v where_item (drop i fs) (drop i os)
found_drop v fs os zero h = h
found_drop v [] [] (suc i) h = tt
found_drop v (f ∷ fs) (o ∷ os) (suc i) h = found_drop v fs os i h.1
found_drop v [] (o ∷ os) (suc i) h = absurd h
found_drop v (f ∷ fs) [] (suc i) h = absurd h

pub first_none : (ns : List Node) (a : List Pair) (others : List Found) (gate : ℕ) → Gives ns gate (λ choice v. false) → MeetFirst ns a others 0 gate
first_none ns a others gate gives = record { below = gives.below; value = λ choice v runs o os is all. gives.value choice v runs }

pub first_step : (n1 n2 n3 : List Node) (a : List Pair) (others : List Found) (i : ℕ) (x : Found) (some met' gate : ℕ) → i < length others
    → x ≡ get_or others i x → Grown n1 n2 → Grown n2 n3
    → MeetFirst n1 a others i some → Meet n2 a (where_item x) met' → Gives n3 gate (λ choice v. v some || v met') → MeetFirst n3 a others (i + 1) gate
first_step n1 n2 n3 a others i x some met' gate low is grown12 grown23 before one gives =
    record {
      below = gives.below;
      value = λ choice v runs o os found all.
          let r2 = grown23.runs choice v runs in
          let r1 = grown12.runs choice v r2 in
          let q : Option ℕ = get_or os i None in
          let within : i < length os = omega (arith, low, found_wide v others os all) in
          gives.value choice v runs
          ∙ ap (λ b. b || v met') (before.value choice v r1 o os found all)
          ∙ ap (λ b. list_any (same_place o) (take i os) || b)
          (one.value choice v r2 o q found (subst (λ f. IsFound v (where_item f) q) (sym is) (found_at v others os i x None low all)))
          ∙ sym (some_more (same_place o) (take i os) q) ∙ ap (list_any (same_place o)) (sym (take_more os i None within));
    }

pub first_all : (ns : List Node) (a : List Pair) (others : List Found) (i gate : ℕ) → length others ≤ i → MeetFirst ns a others i gate
    → MeetSome ns a others gate
first_all ns a others i gate high h =
    record {
      below = h.below;
      value = λ choice v runs o os is all.
          h.value choice v runs o os is all ∙ ap (list_any (same_place o)) (take_all i os (omega (arith, high, found_wide v others os all)));
    }

-- Two of all.

abbrev twice : List (Option ℕ) → Bool
twice [] = false
twice (o ∷ os) = list_any (same_place o) os || twice os

-- the gate tells of the first k items, each with those behind it
pub record TwiceFirst (ns : List Node) (found : List Found) (k gate : ℕ) : Type 0 where
  pub below : gate < length ns
  pub value : (choice v : ℕ → Bool) → Runs ns choice v → (os : List (Option ℕ)) → AreFound v where_item found os → (v gate || twice (drop k os)) ≡ twice os

pub twice_none : (ns : List Node) (found : List Found) (gate : ℕ) → Gives ns gate (λ choice v. false) → TwiceFirst ns found 0 gate
twice_none ns found gate gives = record { below = gives.below; value = λ choice v runs os all. ap (λ b. b || twice os) (gives.value choice v runs) }

pub twice_step : (n1 n2 n3 : List Node) (found rest : List Found) (k : ℕ) (d : Found) (some met' gate : ℕ) → k < length found → rest ≡ drop (k + 1) found
    → Grown n1 n2 → Grown n2 n3
    → TwiceFirst n1 found k some → MeetSome n2 (where_item (get_or found k d)) rest met' → Gives n3 gate (λ choice v. v some || v met')
    → TwiceFirst n3 found (k + 1) gate
twice_step n1 n2 n3 found rest k d some met' gate low behind grown12 grown23 before one gives =
    record {
      below = gives.below;
      value = λ choice v runs os all.
          let r2 = grown23.runs choice v runs in
          let r1 = grown12.runs choice v r2 in
          let q : Option ℕ = get_or os k None in
          let within : k < length os = omega (arith, low, found_wide v found os all) in
          let here : v met' ≡ list_any (same_place q) (drop (k + 1) os) =
          one.value choice v r2 q (drop (k + 1) os) (found_at v found os k d None low all)
          (subst (λ fs. AreFound v where_item fs (drop (k + 1) os)) (sym behind) (found_drop v found os (k + 1) all)) in
          ap (λ b. b || twice (drop (k + 1) os)) (gives.value choice v runs ∙ ap (λ b. v some || b) here)
          ∙ or_assoc (v some) (list_any (same_place q) (drop (k + 1) os)) (twice (drop (k + 1) os))
          ∙ ap (λ xs. v some || twice xs) (sym (drop_more os k None within))
          ∙ before.value choice v r1 os all;
    }

-- as the definition has it

abbrev places_of : List (Option ℕ) → List ℕ
places_of [] = []
places_of (None ∷ os) = places_of os
places_of (Some at ∷ os) = at ∷ places_of os

some_place : (m : ℕ) (os : List (Option ℕ)) → list_any (same_place (Some m)) os ≡ list_any (nat_eq m) (places_of os)
some_place m [] = refl
some_place m (None ∷ os) = some_place m os
some_place m (Some n ∷ os) = ap (λ b. nat_eq m n || b) (some_place m os)

no_place : (os : List (Option ℕ)) → list_any (same_place None) os ≡ false
no_place [] = refl
no_place (o ∷ os) = no_place os

twice_is : (os : List (Option ℕ)) → twice os ≡ meet_twice (places_of os)
twice_is [] = refl
twice_is (None ∷ os) = ap (λ b. b || twice os) (no_place os) ∙ twice_is os
twice_is (Some m ∷ os) = ap (λ b. b || twice os) (some_place m os) ∙ ap (λ b. list_any (nat_eq m) (places_of os) || b) (twice_is os)

locked_places : (v : ℕ → Bool) (fs : List Found) (os : List (Option ℕ)) → AreFound v where_item fs os
    → map (λ l. l.at) (found_list put_locked fs os) ≡ places_of os
locked_places v [] [] h = refl
locked_places v (f ∷ fs) (None ∷ os) h = locked_places v fs os h.1
locked_places v (f ∷ fs) (Some at ∷ os) h = ap (λ xs. at ∷ xs) (locked_places v fs os h.1)
locked_places v [] (o ∷ os) h = absurd h
locked_places v (f ∷ fs) [] h = absurd h

outed_places : (v : ℕ → Bool) (fs : List Found) (os : List (Option ℕ)) → AreFound v where_item fs os → map (λ o. o.at) (found_list put_out fs os) ≡ places_of os
outed_places v [] [] h = refl
outed_places v (f ∷ fs) (None ∷ os) h = outed_places v fs os h.1
outed_places v (f ∷ fs) (Some at ∷ os) h = ap (λ xs. at ∷ xs) (outed_places v fs os h.1)
outed_places v [] (o ∷ os) h = absurd h
outed_places v (f ∷ fs) [] h = absurd h

none_twice : (b : Bool) (os : List (Option ℕ)) (k : ℕ) → length os ≤ k → (b || twice (drop k os)) ≡ b
none_twice b os k high = ap (λ xs. b || twice xs) (drop_all k os high) ∙ or_false b

pub is_twice : (ns : List Node) (found : List Found) (k gate : ℕ) → length found ≤ k → TwiceFirst ns found k gate → MeetTwice ns found gate
is_twice ns found k gate high h =
    record {
      below = h.below;
      locks = λ choice v runs ls shows.
          tells choice v runs shows.places shows.found
          ∙ ap meet_twice (sym (ap (map (λ l. l.at)) shows.is ∙ locked_places v found shows.places shows.found));
      outs = λ choice v runs os shows.
          tells choice v runs shows.places shows.found
          ∙ ap meet_twice (sym (ap (map (λ o. o.at)) shows.is ∙ outed_places v found shows.places shows.found));
    }
  where
    tells : (choice v : ℕ → Bool) → Runs ns choice v → (os : List (Option ℕ)) → AreFound v where_item found os → v gate ≡ meet_twice (places_of os)
    tells choice v runs os all =
        sym (none_twice (v gate) os k (omega (arith, high, found_wide v found os all))) ∙ h.value choice v runs os all ∙ twice_is os
