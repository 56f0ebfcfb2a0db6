-- Numbers that pass a test, ascending: they are determined by which numbers are among them.
use Rattle.std.proofs.Common.{◌≡◌, ℕ, zero, suc, ◌+◌, ◌-◌, ◌<◌, ◌≤◌, Bool, true, false, cond, List, [], ◌∷◌, refl, sym, ap, subst, ◌∙◌, ⊎_elim, nat_eq, eqb-true, arith}
use Rattle.std.proofs.lemmas.Bool.{cases_lt, eq-eqb, false≢true}
use Rattle.std.specs.Prelude.{◌||◌, filter}
use Rattle.std.specs.List.{list_any, range_with_len}

or_right : (b c : Bool) → c ≡ true → (b || c) ≡ true
or_right true c h = refl
or_right false c h = h

-- two tests that pass together are equal
pub together : (b c : Bool) → (b ≡ true → c ≡ true) → (c ≡ true → b ≡ true) → b ≡ c
together true c f g = sym (f refl)
together false true f g = g refl
together false false f g = refl

in_cond : (b : Bool) (y n : ℕ) (ys : List ℕ) → list_any (nat_eq n) ys ≡ true → list_any (nat_eq n) (cond b (y ∷ ys) ys) ≡ true
in_cond true y n ys h = or_right (nat_eq n y) (list_any (nat_eq n) ys) h
in_cond false y n ys h = h

-- one of a list is the first, or among the others
pub first_or : {P : Type 0} (n x : ℕ) (xs : List ℕ) → (n ≡ x → P) → (list_any (nat_eq n) xs ≡ true → P)
    → (nat_eq n x || list_any (nat_eq n) xs) ≡ true → P
first_or {P} n x xs f g h =
    (elim (nat_eq n x) as (λ c. nat_eq n x ≡ c → (c || list_any (nat_eq n) xs) ≡ true → P) [
      | true ↦ λ is _. f (eqb-true n x is)
      | false ↦ λ _ rest. g rest
    ]) refl h

-- what is among those that pass passes
pub passes : (t : ℕ → Bool) (xs : List ℕ) (n : ℕ) → list_any (nat_eq n) (filter t xs) ≡ true → t n ≡ true
passes t [] n h = absurd (false≢true h)
passes t (x ∷ xs) n h =
    (elim (t x) as (λ b. t x ≡ b → list_any (nat_eq n) (cond b (x ∷ filter t xs) (filter t xs)) ≡ true → t n ≡ true) [
      | true ↦ λ e all. first_or n x (filter t xs) (λ is. ap t is ∙ e) (passes t xs n) all
      | false ↦ λ e rest. passes t xs n rest
    ]) refl h

-- and in the list
pub within : (t : ℕ → Bool) (xs : List ℕ) (n : ℕ) → list_any (nat_eq n) (filter t xs) ≡ true → list_any (nat_eq n) xs ≡ true
within t [] n h = h
within t (x ∷ xs) n h =
    (elim (t x) as (λ b. list_any (nat_eq n) (cond b (x ∷ filter t xs) (filter t xs)) ≡ true → (nat_eq n x || list_any (nat_eq n) xs) ≡ true) [
      | true ↦ λ all. first_or n x (filter t xs) (λ is. λ i. eq-eqb n x is i || list_any (nat_eq n) xs)
          (λ rest. or_right (nat_eq n x) (list_any (nat_eq n) xs) (within t xs n rest)) all
      | false ↦ λ rest. or_right (nat_eq n x) (list_any (nat_eq n) xs) (within t xs n rest)
    ]) h

-- what passes in a list is among those that pass
pub passing : (t : ℕ → Bool) (xs : List ℕ) (n : ℕ) → list_any (nat_eq n) xs ≡ true → t n ≡ true → list_any (nat_eq n) (filter t xs) ≡ true
passing t [] n h e = h
passing t (x ∷ xs) n h e =
    first_or n x xs
    (λ is.
    let here : t x ≡ true = ap t (sym is) ∙ e in
    let P : Bool → Type 0 = λ b. list_any (nat_eq n) (cond b (x ∷ filter t xs) (filter t xs)) ≡ true in
    subst P (sym here) (λ i. eq-eqb n x is i || list_any (nat_eq n) (filter t xs)))
    (λ rest. in_cond (t x) x n (filter t xs) (passing t xs n rest e)) h

-- Ranges.

pub below : (a k n : ℕ) → list_any (nat_eq n) (range_with_len a k) ≡ true → n < a + k
below a zero n h = absurd (false≢true h)
below a (suc k) n h =
    first_or n a (range_with_len (a + 1) k) (λ is. omega (arith, is)) (λ rest. let low = below (a + 1) k n rest in omega (arith, low)) h

pub in_range : (a k n : ℕ) → a ≤ n → n < a + k → list_any (nat_eq n) (range_with_len a k) ≡ true
in_range a zero n low high = absurd (omega (arith, low, high))
in_range a (suc k) n low high =
    ⊎_elim
    (λ less. or_right (nat_eq n a) (list_any (nat_eq n) (range_with_len (a + 1) k)) (in_range (a + 1) k n (omega (arith, less)) (omega (arith, high))))
    (λ not_less. λ i. eq-eqb n a (let e : n ≡ a = omega (arith, low, not_less) in e) i || list_any (nat_eq n) (range_with_len (a + 1) k))
    (cases_lt a n)

pub filter_same : (t k : ℕ → Bool) (a n : ℕ) → ((x : ℕ) → x < a + n → t x ≡ k x) → filter t (range_with_len a n) ≡ filter k (range_with_len a n)
filter_same t k a zero e = refl
filter_same t k a (suc n) e =
    let here : t a ≡ k a = e a (omega arith) in
    let rest = filter_same t k (a + 1) n (λ x low. e x (omega (arith, low))) in
    λ i. cond (here i) (a ∷ rest i) (rest i)

none : (k : ℕ → Bool) (a n : ℕ) → ((x : ℕ) → k x ≡ true → x < a) → filter k (range_with_len a n) ≡ []
none k a zero few = refl
none k a (suc n) few =
    let rest : filter k (range_with_len (a + 1) n) ≡ [] = none k (a + 1) n (λ x passed. let low = few x passed in omega (arith, low)) in
    (elim (k a) as (λ b. k a ≡ b → cond b (a ∷ filter k (range_with_len (a + 1) n)) (filter k (range_with_len (a + 1) n)) ≡ []) [
      | true ↦ λ passed. absurd (let low = few a passed in omega (arith, low))
      | false ↦ λ _. rest
    ]) refl

-- a longer range has no more that pass
pub longer : (k : ℕ → Bool) (a n more : ℕ) → ((x : ℕ) → k x ≡ true → x < a + n)
    → filter k (range_with_len a (n + more)) ≡ filter k (range_with_len a n)
longer k a zero more few =
    let P : ℕ → Type 0 = λ m. filter k (range_with_len a m) ≡ [] in
    subst P (let e : more ≡ 0 + more = omega arith in e) (none k a more (λ x passed. let low = few x passed in omega (arith, low)))
longer k a (suc n) more few =
    let rest = longer k (a + 1) n more (λ x passed. let low = few x passed in omega (arith, low)) in
    let P : ℕ → Type 0 = λ m. filter k (range_with_len a m) ≡ filter k (range_with_len a (suc n)) in
    subst P (let e : suc (n + more) ≡ suc n + more = omega arith in e) (λ i. cond (k a) (a ∷ rest i) (rest i))

-- two ranges that both have all that pass
pub both : (k : ℕ → Bool) (m n : ℕ) → ((x : ℕ) → k x ≡ true → x < m) → ((x : ℕ) → k x ≡ true → x < n)
    → filter k (range_with_len 0 m) ≡ filter k (range_with_len 0 n)
both k m n few few' =
    ⊎_elim
    (λ less.
    let e : m + (n - m) ≡ n = omega (arith, less) in
    sym (longer k 0 m (n - m) (λ x passed. let low = few x passed in omega (arith, low))) ∙ ap (λ (j : ℕ). filter k (range_with_len 0 j)) e)
    (λ not_less.
    let e : n + (m - n) ≡ m = omega (arith, not_less) in
    ap (λ (j : ℕ). filter k (range_with_len 0 j)) (sym e) ∙ longer k 0 n (m - n) (λ x passed. let low = few' x passed in omega (arith, low)))
    (cases_lt m n)
