-- The numbers of the places of a function: which they are, that they are apart, and in which order.
use Rattle.std.proofs.Common.{◌≡◌, ◌≢◌, ℕ, zero, suc, ◌+◌, ◌<◌, ◌≤◌, Bool, true, false, cond, ◌||◌, eqb, List, [], ◌∷◌, ◌++◌, length, map, refl, sym, ap, ◌∙◌, subst, ⊎_elim, ◌⊎◌, inl, inr, arith, eq-eqb, ne_eqb, filter}
use mathlib.Core.Option.{some, none, some-injective, some-ne-none}
use lib.ListN.{get_elem?}
use Rattle.std.specs.List.{range_with_len}
use Rattle.std.proofs.lemmas.Bool.{cases_eq, cases_lt, cases_Bool, cond_both, cond-true, cond-false, or_left, or_right, or_from, or_cases, eqb-true, false≢true, false_from_ne_true}
use Rattle.std.proofs.lemmas.List.Elements.{filter-append}
use Rattle.plan_core.specs.Graph.{callees}
use Rattle.summary_db.specs.declared.place.Place.{Place}
use Rattle.summary_db.specs.Views.{member}
use Rattle.summary_db.specs.Places.{edge, edges_before, places_of, numbers_where, is_taker, is_giver, takes_of, gives_of, slots_of, IsPlace, IsLaidOut}
use Rattle.summary_db.proofs.Sets.{member_append}

-- no number stands twice
abbrev pub Distinct : List ℕ → Type 0
Distinct [] = Unit {0}
Distinct (k ∷ ks) = (member k ks ≡ false) × Distinct ks

pub distinct_append : (ks js : List ℕ) → Distinct ks → Distinct js → ((i : ℕ) → member i ks ≡ true → member i js ≡ false) → Distinct (ks ++ js)
distinct_append [] js a b apart = b
distinct_append (k ∷ ks) js a b apart = (
  member_append k ks js ∙ or_from (member k ks) (member k js) a.0 (apart k (or_left (eqb k k) (member k ks) (eq-eqb k k refl))),
  distinct_append ks js a.1 b (λ i has. apart i (or_right (eqb i k) (member i ks) has)),
)

module _ (test : Place → Bool) where
  pub record IsFound (n : ℕ) (ps : List Place) (i : ℕ) : Type 0 where
    pub from : ℕ
    pub found : Place
    pub number : i ≡ n + from
    pub here : get_elem? ps from ≡ some found
    pub passes : test found ≡ true

  later : (n : ℕ) (p : Place) (ps : List Place) (i : ℕ) → IsFound (n + 1) ps i → IsFound n (p ∷ ps) i
  later n p ps i r = let e = r.number in record { from = suc r.from; found = r.found; number = omega arith; here = r.here; passes = r.passes }

  pub found_from_member : (n : ℕ) (ps : List Place) (i : ℕ) → member i (numbers_where test n ps) ≡ true → IsFound n ps i
  unfolding numbers_where
  found_from_member n [] i has = absurd (false≢true has)
  found_from_member n (p ∷ ps) i has =
      ⊎_elim
      (λ passes.
      ⊎_elim
      (λ same. let e = eqb-true i n same in record { from = 0; found = p; number = omega arith; here = refl; passes = passes })
      (λ rest. later n p ps i (found_from_member (n + 1) ps i rest))
      (or_cases (eqb i n) (member i (numbers_where test (n + 1) ps)) (subst (λ l. member i l ≡ true) (cond-true (test p) (n ∷ numbers_where test (n + 1) ps) (numbers_where test (n + 1) ps) passes) has)))
      (λ fails. later n p ps i (found_from_member (n + 1) ps i (subst (λ l. member i l ≡ true) (cond-false (test p) (n ∷ numbers_where test (n + 1) ps) (numbers_where test (n + 1) ps) fails) has)))
      (cases_Bool (test p))

  pub member_from_found : (n : ℕ) (ps : List Place) (j : ℕ) (p : Place) → get_elem? ps j ≡ some p → test p ≡ true → member (n + j) (numbers_where test n ps) ≡ true
  unfolding numbers_where
  member_from_found n [] j p here passes = absurd (some-ne-none p (sym here))
  member_from_found n (q ∷ qs) zero p here passes =
      subst (λ l. member (n + 0) l ≡ true) (sym (cond-true (test q) (n ∷ numbers_where test (n + 1) qs) (numbers_where test (n + 1) qs) (ap test (some-injective q p here) ∙ passes)))
      (or_left (eqb (n + 0) n) (member (n + 0) (numbers_where test (n + 1) qs)) (eq-eqb (n + 0) n (omega arith)))
  member_from_found n (q ∷ qs) (suc j) p here passes =
      let rest : member (n + suc j) (numbers_where test (n + 1) qs) ≡ true =
      (let e : n + 1 + j ≡ n + suc j = omega arith in subst (λ (i : ℕ). member i (numbers_where test (n + 1) qs) ≡ true) e (member_from_found (n + 1) qs j p here passes)) in
      cond_both (test q) (n ∷ numbers_where test (n + 1) qs) (numbers_where test (n + 1) qs) (λ l. member (n + suc j) l ≡ true)
      (λ _. or_right (eqb (n + suc j) n) (member (n + suc j) (numbers_where test (n + 1) qs)) rest)
      (λ _. rest)

  pub distinct_numbers : (n : ℕ) (ps : List Place) → Distinct (numbers_where test n ps)
  unfolding numbers_where
  distinct_numbers n [] = tt
  distinct_numbers n (p ∷ ps) =
      cond_both (test p) (n ∷ numbers_where test (n + 1) ps) (numbers_where test (n + 1) ps) Distinct
      (λ _. (false_from_ne_true (member n (numbers_where test (n + 1) ps)) (λ has. let r = found_from_member (n + 1) ps n has in let e = r.number in omega arith), distinct_numbers (n + 1) ps))
      (λ _. distinct_numbers (n + 1) ps)

  pub numbers_snoc : (n : ℕ) (ps : List Place) (p : Place) → numbers_where test n (ps ++ p ∷ []) ≡ numbers_where test n ps ++ cond (test p) ((n + length ps) ∷ []) []
  unfolding numbers_where
  numbers_snoc n [] p = let e : n ≡ n + 0 = omega arith in ap (λ (k : ℕ). cond (test p) (k ∷ []) []) e
  numbers_snoc n (q ∷ qs) p =
      let rest = numbers_snoc (n + 1) qs p in
      let e : n + 1 + length qs ≡ n + suc (length qs) = omega arith in
      let rest' : numbers_where test (n + 1) (qs ++ p ∷ []) ≡ numbers_where test (n + 1) qs ++ cond (test p) ((n + suc (length qs)) ∷ []) [] =
      rest ∙ ap (λ (k : ℕ). numbers_where test (n + 1) qs ++ cond (test p) (k ∷ []) []) e in
      ⊎_elim
      (λ passes. cond-true (test q) _ _ passes ∙ (ap (λ l. n ∷ l) rest' ∙ sym (ap (λ l. l ++ cond (test p) ((n + suc (length qs)) ∷ []) []) (cond-true (test q) (n ∷ numbers_where test (n + 1) qs) (numbers_where test (n + 1) qs) passes))))
      (λ fails. cond-false (test q) _ _ fails ∙ (rest' ∙ sym (ap (λ l. l ++ cond (test p) ((n + suc (length qs)) ∷ []) []) (cond-false (test q) (n ∷ numbers_where test (n + 1) qs) (numbers_where test (n + 1) qs) fails))))
      (cases_Bool (test q))

  pub length_numbers : (n : ℕ) (ps : List Place) → length (numbers_where test n ps) ≡ length (filter test ps)
  unfolding numbers_where
  length_numbers n [] = refl
  length_numbers n (p ∷ ps) =
      let rest = length_numbers (n + 1) ps in
      ⊎_elim
      (λ passes. ap length (cond-true (test p) (n ∷ numbers_where test (n + 1) ps) (numbers_where test (n + 1) ps) passes) ∙ (ap suc rest ∙ sym (ap length (cond-true (test p) (p ∷ filter test ps) (filter test ps) passes))))
      (λ fails. ap length (cond-false (test p) (n ∷ numbers_where test (n + 1) ps) (numbers_where test (n + 1) ps) fails) ∙ (rest ∙ sym (ap length (cond-false (test p) (p ∷ filter test ps) (filter test ps) fails))))
      (cases_Bool (test p))

  -- the k-th number is that of the k-th place that passes
  pub record IsNth (n : ℕ) (ps : List Place) (k i : ℕ) : Type 0 where
    pub from : ℕ
    pub found : Place
    pub number : i ≡ n + from
    pub here : get_elem? ps from ≡ some found
    pub nth : get_elem? (filter test ps) k ≡ some found

  pub nth_number : (n : ℕ) (ps : List Place) (k i : ℕ) → get_elem? (numbers_where test n ps) k ≡ some i → IsNth n ps k i
  unfolding numbers_where
  nth_number n [] k i at = absurd (some-ne-none i (sym at))
  nth_number n (p ∷ ps) k i at =
      ⊎_elim
      (λ passes. first n p ps passes k i (subst (λ l. get_elem? l k ≡ some i) (cond-true (test p) (n ∷ numbers_where test (n + 1) ps) (numbers_where test (n + 1) ps) passes) at) (λ j at'. nth_number (n + 1) ps j i at'))
      (λ fails.
      let r = nth_number (n + 1) ps k i (subst (λ l. get_elem? l k ≡ some i) (cond-false (test p) (n ∷ numbers_where test (n + 1) ps) (numbers_where test (n + 1) ps) fails) at) in
      let e = r.number in
      record { from = suc r.from; found = r.found; number = omega arith; here = r.here; nth = subst (λ l. get_elem? l k ≡ some r.found) (sym (cond-false (test p) (p ∷ filter test ps) (filter test ps) fails)) r.nth })
      (cases_Bool (test p))
    where
      first : (n : ℕ) (p : Place) (ps : List Place) → test p ≡ true → (k i : ℕ) → get_elem? (n ∷ numbers_where test (n + 1) ps) k ≡ some i → ((j : ℕ) → get_elem? (numbers_where test (n + 1) ps) j ≡ some i → IsNth (n + 1) ps j i) → IsNth n (p ∷ ps) k i
      first n p ps passes zero i at rec = let e = some-injective n i at in record { from = 0; found = p; number = omega arith; here = refl; nth = ap (λ l. get_elem? l 0) (cond-true (test p) (p ∷ filter test ps) (filter test ps) passes) }
      first n p ps passes (suc k) i at rec = let r = rec k at in let e = r.number in record { from = suc r.from; found = r.found; number = omega arith; here = r.here; nth = subst (λ l. get_elem? l (suc k) ≡ some r.found) (sym (cond-true (test p) (p ∷ filter test ps) (filter test ps) passes)) r.nth }
