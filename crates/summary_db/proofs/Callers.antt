-- How many places a function gives to: one for each function that has it as a kept callee, and one
-- for its result.
use Rattle.std.proofs.Common.{◌≡◌, ℕ, zero, suc, ◌+◌, ◌<◌, ◌≤◌, Bool, true, false, cond, ◌||◌, eqb, List, [], ◌∷◌, ◌++◌, length, map, get_or}
use Rattle.std.proofs.Common.{refl, sym, ap, ◌∙◌, subst, ⊎_elim, arith, eq-eqb, ne_eqb, filter, length-append, count_by}
use Rattle.std.proofs.lemmas.Bool.{cases_eq, cond-true, cond-false, or_left, or_from}
use Rattle.std.proofs.lemmas.List.Elements.{filter-append}
use Rattle.std.proofs.lemmas.List.FromFn.{length-range_with_len, get_or-range_with_len}
use Rattle.std.proofs.lemmas.List.Sums.{sum_by-append}
use Rattle.std.specs.List.{range_with_len}
use Rattle.plan_core.specs.Graph.{callees}
use Rattle.summary_db.specs.declared.place.Place.{Place}
use Rattle.summary_db.specs.Views.{member}
use Rattle.summary_db.specs.Places.{edge, edges_before, places_of, numbers_where, is_giver, gives_of, IsLaidOut, callers}
use Rattle.summary_db.proofs.Numbers.{length_numbers}
use Rattle.summary_db.proofs.Laying.{member_get}

Rises : List ℕ → Type 0
Rises xs = (k : ℕ) → k + 1 < length xs → get_or xs k 0 < get_or xs (k + 1) 0

tail_rises : (x : ℕ) (xs : List ℕ) → Rises (x ∷ xs) → Rises xs
unfolding Rises
tail_rises x xs up k low =
    let e : suc k + 1 ≡ suc (k + 1) = omega arith in
    subst (λ (n : ℕ). get_or xs k 0 < get_or (x ∷ xs) n 0) e (up (suc k) (omega (arith, low)))

module _ (f k : ℕ) where
  none_above : (x : ℕ) (xs : List ℕ) → Rises (x ∷ xs) → f ≤ x
      → (filter (is_giver f) (map (edge k) xs) ≡ []) × (member f xs ≡ false)
  unfolding Rises
  none_above x [] up low = (refl, refl)
  none_above x (y ∷ ys) up low =
      let rise : x < y = up 0 (omega arith) in
      let rest = none_above y ys (tail_rises x (y ∷ ys) up) (omega arith) in (
        cond-false (eqb y f) (edge k y ∷ filter (is_giver f) (map (edge k) ys)) (filter (is_giver f) (map (edge k) ys)) (ne_eqb y f (λ e. omega arith)) ∙ rest.0,
        or_from (eqb f y) (member f ys) (ne_eqb f y (λ e. omega arith)) rest.1,
      )

  -- f is at most once in a row
  once_in : (xs : List ℕ) → Rises xs → length (filter (is_giver f) (map (edge k) xs)) ≡ cond (member f xs) 1 0
  once_in [] up = refl
  once_in (x ∷ xs) up =
      let ps : List Place = filter (is_giver f) (map (edge k) xs) in
      ⊎_elim
      (λ same.
      let rest = none_above x xs up (let e : x ≡ f = same in omega arith) in
      ap length (cond-true (eqb x f) (edge k x ∷ ps) ps (eq-eqb x f same) ∙ ap (λ l. edge k x ∷ l) rest.0)
      ∙ sym (cond-true (member f (x ∷ xs)) 1 0 (or_left (eqb f x) (member f xs) (eq-eqb f x (sym same)))))
      (λ other.
      ap length (cond-false (eqb x f) (edge k x ∷ ps) ps (ne_eqb x f other))
      ∙ (once_in xs (tail_rises x xs up)
      ∙ ap (λ (b : Bool). cond b 1 0) (sym (ap (λ (b : Bool). b || member f xs) (ne_eqb f x (λ e. other (sym e)))))))
      (cases_eq x f)

range_next : (a n : ℕ) → range_with_len a (suc n) ≡ range_with_len a n ++ (a + n) ∷ []
range_next a zero = let e : a ≡ a + 0 = omega arith in ap (λ (m : ℕ). m ∷ []) e
range_next a (suc n) =
    let e : a + 1 + n ≡ a + suc n = omega arith in
    ap (λ l. a ∷ l) (range_next (a + 1) n ∙ ap (λ (m : ℕ). range_with_len (a + 1) n ++ m ∷ []) e)

count_next : (test : ℕ → Bool) (xs : List ℕ) (x : ℕ) → count_by test (xs ++ x ∷ []) ≡ count_by test xs + cond (test x) 1 0
count_next test xs x =
    let one : ℕ = cond (test x) 1 0 in
    sum_by-append (λ y. cond (test y) 1 0) xs (x ∷ []) ∙ ap (λ (n : ℕ). count_by test xs + n) (let e : 0 + one ≡ one = omega arith in e)

edges_given : (rows : List (List ℕ)) → IsLaidOut rows → (f k : ℕ)
    → length (filter (is_giver f) (edges_before rows k)) ≡ count_by (λ g. member f (callees rows g)) (range_with_len 0 k)
unfolding edges_before Rises
edges_given rows laid f zero = refl
edges_given rows laid f (suc k) =
    let test : ℕ → Bool = λ g. member f (callees rows g) in
    let e : 0 + k ≡ k = omega arith in
    ap length (filter-append (is_giver f) (edges_before rows k) (map (edge k) (callees rows k)))
    ∙ (length-append (filter (is_giver f) (edges_before rows k)) (filter (is_giver f) (map (edge k) (callees rows k)))
    ∙ ((λ i. edges_given rows laid f k i + once_in f k (callees rows k) (laid.rising k) i)
    ∙ sym (ap (count_by test) (range_next 0 k ∙ ap (λ (m : ℕ). range_with_len 0 k ++ m ∷ []) e) ∙ count_next test (range_with_len 0 k) k)))

range_rises : (n : ℕ) → Rises (range_with_len 0 n)
unfolding Rises
range_rises n k low =
    let lower : k + 1 < n = subst (λ (m : ℕ). k + 1 < m) (length-range_with_len 0 n) low in
    omega (arith, get_or-range_with_len 0 n k 0 (omega arith), get_or-range_with_len 0 n (k + 1) 0 lower)

in_range : (n f : ℕ) → f < n → member f (range_with_len 0 n) ≡ true
in_range n f low =
    let at : get_or (range_with_len 0 n) f 0 ≡ f = get_or-range_with_len 0 n f 0 low ∙ omega arith in
    let many = length-range_with_len 0 n in
    subst (λ (g : ℕ). member g (range_with_len 0 n) ≡ true) at (member_get (range_with_len 0 n) f 0 (omega arith))

pub gives_many : (rows : List (List ℕ)) → IsLaidOut rows → (f : ℕ) → f < length rows → length (gives_of rows f) ≡ callers rows f + 1
unfolding gives_of places_of
gives_many rows laid f low =
    let n : ℕ = length rows in
    length_numbers (is_giver f) 0 (places_of rows)
    ∙ (ap length (filter-append (is_giver f) (edges_before rows n) (map (edge n) (range_with_len 0 n)))
    ∙ (length-append (filter (is_giver f) (edges_before rows n)) (filter (is_giver f) (map (edge n) (range_with_len 0 n)))
    ∙ (λ i. edges_given rows laid f n i + (once_in f n (range_with_len 0 n) (range_rises n) ∙ cond-true (member f (range_with_len 0 n)) 1 0 (in_range n f low)) i)))
