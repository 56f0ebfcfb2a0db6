-- The plan from the rows: of all functions, in order, the filter keeps just the row, which is ascending.
use Rattle.std.proofs.Common.{◌≡◌, ℕ, zero, suc, ◌+◌, ◌<◌, ◌≤◌, ◌&&◌, ◌||◌, cond, not, Bool, true, false, List, [], ◌∷◌, length, map, filter, eqb, get_or, refl, sym, subst, ap, ◌∙◌, ⊎_elim, zero-add, arith, rules}
use Rattle.std.proofs.lemmas.Bool.{cases_eq, cond-true, cond-false, eq-eqb, ne_eqb}
use Rattle.std.specs.List.{list_any, range_with_len, Contains}
use Rattle.std.specs.List.Sorted.{IsStrictlyIncreasing}
use Rattle.plan_core.specs.Graph.{callees, calls, is_cut, functions, kept_callees, cut_callees, cut_edges, IsGraph}

-- the items rise from a on, and stay below b
abbrev Within : (a b : ℕ) → List ℕ → Type 0
Within a b [] = Unit {0}
Within a b (x ∷ xs) = (a ≤ x) × ((x < b) × Within (x + 1) b xs)

rising_rest : (x : ℕ) (xs : List ℕ) → IsStrictlyIncreasing (x ∷ xs) → IsStrictlyIncreasing xs
rising_rest x xs rising k h =
    let here : suc k + 1 ≡ suc (k + 1) = omega arith in
    subst (λ j. get_or (x ∷ xs) (suc k) 0 < get_or (x ∷ xs) j 0) here (rising (suc k) (omega (arith, h)))

within_from : (a b : ℕ) (xs : List ℕ) → IsStrictlyIncreasing xs → ((k : ℕ) → k < length xs → get_or xs k 0 < b)
    → (0 < length xs → a ≤ get_or xs 0 0) → Within a b xs
within_from a b [] rising below from = tt
within_from a b (x ∷ xs) rising below from = (
  from (omega arith),
  (
    below 0 (omega arith),
    within_from (x + 1) b xs
        (rising_rest x xs rising)
        (λ k h. below (suc k) (omega (arith, h)))
        (λ h. omega (arith, rising 0 (omega (arith, h)))),
  ),
)

-- what is below all items is none of them
none_below : (a b g : ℕ) (xs : List ℕ) → Within a b xs → g < a → list_any (eqb g) xs ≡ false
none_below a b g [] within low = refl
none_below a b g (x ∷ xs) within low =
    ap (λ t. t || list_any (eqb g) xs) (ne_eqb g x (λ same. omega (arith, same, within.0, low)))
    ∙ none_below (x + 1) b g xs within.1.1 (omega (arith, within.0, low))

-- what the filter over a range keeps, where the test says on it what stands in the list
beyond_head : (p : ℕ → Bool) (x : ℕ) (xs : List ℕ) (a : ℕ) → ((g : ℕ) → a ≤ g → p g ≡ list_any (eqb g) (x ∷ xs)) → a ≡ x
    → (g : ℕ) → a + 1 ≤ g → p g ≡ list_any (eqb g) xs
beyond_head p x xs a same first g h =
    same g (omega (arith, h)) ∙ ap (λ t. t || list_any (eqb g) xs) (ne_eqb g x (λ e. omega (arith, h, e, first)))

kept_range : (p : ℕ → Bool) (xs : List ℕ) (a n : ℕ) → Within a (a + n) xs → ((g : ℕ) → a ≤ g → p g ≡ list_any (eqb g) xs)
    → filter p (range_with_len a n) ≡ xs
kept_range p [] a zero within same = refl
kept_range p (x ∷ xs) a zero within same = absurd (omega (arith, within.0, within.1.0))
kept_range p [] a (suc n) within same =
    cond-false (p a) _ _ (same a (omega arith)) ∙ kept_range p [] (a + 1) n tt (λ g h. same g (omega (arith, h)))
kept_range p (x ∷ xs) a (suc n) within same =
    let bound : a + suc n ≡ a + 1 + n = omega arith in
    ⊎_elim
    (λ first.
    let here : p a ≡ true = same a (omega arith) ∙ ap (λ t. t || list_any (eqb a) xs) (eq-eqb a x first) in
    let rest = subst (λ b. Within (a + 1) b xs) bound (subst (λ y. Within (y + 1) (a + suc n) xs) (sym first) within.1.1) in
    cond-true (p a) _ _ here ∙ ap (λ ys. a ∷ ys) (kept_range p xs (a + 1) n rest (beyond_head p x xs a same first)) ∙ ap (λ y. y ∷ xs) first)
    (λ other.
    let later : a + 1 ≤ x = omega (arith, within.0, other) in
    let rest : Within (a + 1) (a + suc n) (x ∷ xs) = (later, within.1) in
    cond-false (p a) _ _ (same a (omega arith) ∙ none_below (a + 1) (a + suc n) a (x ∷ xs) rest (omega arith))
    ∙ kept_range p (x ∷ xs) (a + 1) n (subst (λ b. Within (a + 1) b (x ∷ xs)) bound rest) (λ g h. same g (omega (arith, h))))
    (cases_eq a x)

filter_both_step : (p q : ℕ → Bool) (x : ℕ) (xs : List ℕ) (b : Bool) → p x ≡ b → filter (λ y. p y && q y) xs ≡ filter q (filter p xs)
    → filter (λ y. p y && q y) (x ∷ xs) ≡ filter q (filter p (x ∷ xs))
filter_both_step p q x xs true is rest =
    rw is (ap (cond (q x) (x ∷ filter (λ y. p y && q y) xs)) rest ∙ ap (λ ys. cond (q x) (x ∷ ys) (filter q (filter p xs))) rest)
filter_both_step p q x xs false is rest = rw is rest

filter_both : (p q : ℕ → Bool) (xs : List ℕ) → filter (λ x. p x && q x) xs ≡ filter q (filter p xs)
filter_both p q [] = refl
filter_both p q (x ∷ xs) = filter_both_step p q x xs (p x) refl (filter_both p q xs)

contains_same : (rows : List (List ℕ)) (f k : ℕ) → k < length (callees rows f)
    → get_or (callees rows f) k (get_or (callees rows f) k 0) ≡ get_or (callees rows f) k 0
contains_same rows f k h = search (rules, h)

-- the row of a function, as the filter over all functions finds it
row_kept : (rows : List (List ℕ)) (f : ℕ) → IsGraph rows → IsStrictlyIncreasing (callees rows f)
    → filter (calls rows f) (functions rows) ≡ callees rows f
row_kept rows f graph rising =
    kept_range (calls rows f) (callees rows f) 0 (length rows)
    (subst (λ b. Within 0 b (callees rows f)) (sym (zero-add (length rows)))
    (within_from 0 (length rows) (callees rows f) rising
    (λ k h. graph.inside f (get_or (callees rows f) k 0) (k, h, contains_same rows f k h)) (λ h. omega arith)))
    (λ g h. refl)

pub kept_of_row : (rows : List (List ℕ)) (f : ℕ) → IsGraph rows → IsStrictlyIncreasing (callees rows f)
    → kept_callees rows f ≡ filter (λ g. not (is_cut rows f g)) (callees rows f)
kept_of_row rows f graph rising =
    filter_both (calls rows f) (λ g. not (is_cut rows f g)) (functions rows)
    ∙ ap (filter (λ g. not (is_cut rows f g))) (row_kept rows f graph rising)

pub cut_of_row : (rows : List (List ℕ)) (f : ℕ) → IsGraph rows → IsStrictlyIncreasing (callees rows f)
    → cut_callees rows f ≡ filter (is_cut rows f) (callees rows f)
cut_of_row rows f graph rising =
    filter_both (calls rows f) (is_cut rows f) (functions rows) ∙ ap (filter (is_cut rows f)) (row_kept rows f graph rising)
