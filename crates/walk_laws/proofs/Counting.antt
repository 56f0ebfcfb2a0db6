-- Numbers that pass a test, and how many of some numbers do.
use Rattle.std.proofs.Common.{◌≡◌, ◌⊎◌, ℕ, zero, suc, ◌+◌, ◌<◌, ◌≤◌, nat_eq, Bool, true, false, ◌||◌, List, [], ◌∷◌, length, inl, inr, refl, sym, ◌∙◌, ap, arith}
use Rattle.std.specs.Prelude.{if◌then◌else◌}
use Rattle.std.specs.List.{filter, range_with_len}
use Rattle.std.proofs.lemmas.Bool.{true≢false, eqb-true, eq-eqb, cases_lt, or_cases, or_left, or_right}
use Rattle.sc_world.specs.Shows.{is_among}

-- a number is among others where it is the first of them or among the rest
among_first : (x n : ℕ) (xs : List ℕ) → nat_eq n x ≡ true → is_among (x ∷ xs) n ≡ true
among_first x n xs e = or_left (nat_eq n x) (is_among xs n) e

-- A number among those of a list that pass.

pub among_filter : (f : ℕ → Bool) (xs : List ℕ) (n : ℕ) → is_among (filter f xs) n ≡ true → (is_among xs n ≡ true) × (f n ≡ true)
among_filter f [] n h = absurd (true≢false (sym h))
among_filter f (x ∷ xs) n h = by (λ k. among_filter f xs n k) (f x) refl h
  where
    out : (is_among (filter f xs) n ≡ true → (is_among xs n ≡ true) × (f n ≡ true))
        → is_among (filter f xs) n ≡ true → (is_among (x ∷ xs) n ≡ true) × (f n ≡ true)
    out rest k = let parts = rest k in (or_right (nat_eq n x) (is_among xs n) parts.0, parts.1)

    inside : (is_among (filter f xs) n ≡ true → (is_among xs n ≡ true) × (f n ≡ true))
        → f x ≡ true → (nat_eq n x ≡ true) ⊎ (is_among (filter f xs) n ≡ true) → (is_among (x ∷ xs) n ≡ true) × (f n ≡ true)
    inside rest e (inl same) = (or_left (nat_eq n x) (is_among xs n) same, ap f (eqb-true n x same) ∙ e)
    inside rest e (inr k) = out rest k

    by : (is_among (filter f xs) n ≡ true → (is_among xs n ≡ true) × (f n ≡ true))
        → (b : Bool) → f x ≡ b → is_among (if b then x ∷ filter f xs else filter f xs) n ≡ true
        → (is_among (x ∷ xs) n ≡ true) × (f n ≡ true)
    by rest true e k = inside rest e (or_cases (nat_eq n x) (is_among (filter f xs) n) k)
    by rest false e k = out rest k

pub filter_among : (f : ℕ → Bool) (xs : List ℕ) (n : ℕ) → is_among xs n ≡ true → f n ≡ true → is_among (filter f xs) n ≡ true
filter_among f [] n h e = absurd (true≢false (sym h))
filter_among f (x ∷ xs) n h e = by (λ k. filter_among f xs n k e) (f x) refl (or_cases (nat_eq n x) (is_among xs n) h)
  where
    by : (is_among xs n ≡ true → is_among (filter f xs) n ≡ true) → (b : Bool) → f x ≡ b → (nat_eq n x ≡ true) ⊎ (is_among xs n ≡ true)
        → is_among (if b then x ∷ filter f xs else filter f xs) n ≡ true
    by rest true g (inl same) = or_left (nat_eq n x) (is_among (filter f xs) n) same
    by rest true g (inr k) = or_right (nat_eq n x) (is_among (filter f xs) n) (rest k)
    by rest false g (inl same) = absurd (true≢false (sym (ap f (sym (eqb-true n x same)) ∙ e) ∙ g))
    by rest false g (inr k) = rest k

-- Numbers one after another.

pub among_range : (a n k : ℕ) → a ≤ k → k < a + n → is_among (range_with_len a n) k ≡ true
among_range a zero k low high = absurd (omega (arith, low, high))
among_range a (suc n) k low high = by (λ more. among_range (a + 1) n k (omega (arith, more)) (omega (arith, high))) (cases_lt a k)
  where
    by : (a < k → is_among (range_with_len (a + 1) n) k ≡ true) → (a < k) ⊎ (k ≤ a) → (nat_eq k a || is_among (range_with_len (a + 1) n) k) ≡ true
    by rest (inl more) = or_right (nat_eq k a) (is_among (range_with_len (a + 1) n) k) (rest more)
    by rest (inr less) = or_left (nat_eq k a) (is_among (range_with_len (a + 1) n) k) (eq-eqb k a (omega (arith, low, less)))

pub range_among : (a n k : ℕ) → is_among (range_with_len a n) k ≡ true → (a ≤ k) × (k < a + n)
range_among a zero k h = absurd (true≢false (sym h))
range_among a (suc n) k h = by (λ i. range_among (a + 1) n k i) (or_cases (nat_eq k a) (is_among (range_with_len (a + 1) n) k) h)
  where
    by : (is_among (range_with_len (a + 1) n) k ≡ true → (a + 1 ≤ k) × (k < a + 1 + n))
        → (nat_eq k a ≡ true) ⊎ (is_among (range_with_len (a + 1) n) k ≡ true) → (a ≤ k) × (k < a + suc n)
    by rest (inl same) = let e : k ≡ a = eqb-true k a same in (omega (arith, e), omega (arith, e))
    by rest (inr i) = let parts = rest i in (omega (arith, parts.0), omega (arith, parts.1))

-- Some of a list pass one test, and no fewer another one: it is the same test there, or more pass the second.

unfoldable pub AllSame : (p q : ℕ → Bool) → List ℕ → Type 0
AllSame p q xs = (n : ℕ) → is_among xs n ≡ true → p n ≡ q n

abbrev pub how_many : (ℕ → Bool) → List ℕ → ℕ
how_many p xs = length (filter p xs)

no_fewer : (p q : ℕ → Bool) (xs : List ℕ) → ((n : ℕ) → is_among xs n ≡ true → p n ≡ true → q n ≡ true) → how_many p xs ≤ how_many q xs
no_fewer p q [] h = omega arith
no_fewer p q (x ∷ xs) h = by (no_fewer p q xs (λ n i. h n (or_right (nat_eq n x) (is_among xs n) i))) (p x) (q x) refl refl
  where
    by : how_many p xs ≤ how_many q xs → (a b : Bool) → p x ≡ a → q x ≡ b
        → length (if a then x ∷ filter p xs else filter p xs) ≤ length (if b then x ∷ filter q xs else filter q xs)
    by rest true true e f = omega (arith, rest)
    by rest true false e f = absurd (true≢false (sym (h x (or_left (nat_eq x x) (is_among xs x) (eq-eqb x x refl)) e) ∙ f))
    by rest false true e f = omega (arith, rest)
    by rest false false e f = rest

pub same_or_more : (p q : ℕ → Bool) (xs : List ℕ) → ((n : ℕ) → is_among xs n ≡ true → p n ≡ true → q n ≡ true)
    → AllSame p q xs ⊎ (how_many p xs < how_many q xs)
unfolding AllSame
same_or_more p q [] h = inl (λ n i. absurd (true≢false (sym i)))
same_or_more p q (x ∷ xs) h =
    by (p x) (q x) refl refl (same_or_more p q xs (λ n i. h n (or_right (nat_eq n x) (is_among xs n) i)))
  where
    later : (n : ℕ) → is_among xs n ≡ true → p n ≡ true → q n ≡ true
    later n i = h n (or_right (nat_eq n x) (is_among xs n) i)

    less : how_many p xs ≤ how_many q xs
    less = no_fewer p q xs later

    all : p x ≡ q x → AllSame p q xs → AllSame p q (x ∷ xs)
    all e s = λ n i. one n (or_cases (nat_eq n x) (is_among xs n) i)
      where
        one : (n : ℕ) → (nat_eq n x ≡ true) ⊎ (is_among xs n ≡ true) → p n ≡ q n
        one n (inl same) = ap p (eqb-true n x same) ∙ (e ∙ ap q (sym (eqb-true n x same)))
        one n (inr i) = s n i

    by : (a b : Bool) → p x ≡ a → q x ≡ b → AllSame p q xs ⊎ (how_many p xs < how_many q xs)
        → AllSame p q (x ∷ xs) ⊎ (length (if a then x ∷ filter p xs else filter p xs) < length (if b then x ∷ filter q xs else filter q xs))
    by true true e f (inl s) = inl (all (e ∙ sym f) s)
    by true true e f (inr m) = inr (omega (arith, m))
    by true false e f s = absurd (true≢false (sym (h x (or_left (nat_eq x x) (is_among xs x) (eq-eqb x x refl)) e) ∙ f))
    by false true e f s = inr (omega (arith, less))
    by false false e f (inl s) = inl (all (e ∙ sym f) s)
    by false false e f (inr m) = inr m

few : (p : ℕ → Bool) (ys : List ℕ) → how_many p ys ≤ length ys
few p [] = omega arith
few p (y ∷ ys) = one (few p ys) (p y)
  where
    one : how_many p ys ≤ length ys → (b : Bool) → length (if b then y ∷ filter p ys else filter p ys) ≤ suc (length ys)
    one k true = omega (arith, k)
    one k false = omega (arith, k)

-- where all pass, each of them does
pub all_pass : (p : ℕ → Bool) (xs : List ℕ) → length xs ≤ how_many p xs → (n : ℕ) → is_among xs n ≡ true → p n ≡ true
all_pass p [] h n i = absurd (true≢false (sym i))
all_pass p (x ∷ xs) h n i = by (λ k j. all_pass p xs k n j) (p x) refl h (or_cases (nat_eq n x) (is_among xs n) i)
  where
    by : (length xs ≤ how_many p xs → is_among xs n ≡ true → p n ≡ true) → (a : Bool) → p x ≡ a
        → suc (length xs) ≤ length (if a then x ∷ filter p xs else filter p xs) → (nat_eq n x ≡ true) ⊎ (is_among xs n ≡ true) → p n ≡ true
    by rest true e k (inl same) = ap p (eqb-true n x same) ∙ e
    by rest true e k (inr j) = rest (omega (arith, k)) j
    by rest false e k s = absurd (omega (arith, k, few p xs))
