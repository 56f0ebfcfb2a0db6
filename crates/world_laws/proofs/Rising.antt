-- Candidates for rows stand in the order of printing.
use Rattle.std.proofs.Common.{ℕ, zero, suc, ◌+◌, ◌<◌, Bool, List, [], ◌∷◌, ◌++◌, map, filter, refl, inl, inr, arith}
use Rattle.std.proofs.lemmas.List.Elements.{All-from_recursion}
use Rattle.std.proofs.lemmas.List.Kept.{AllPairs-cons, AllPairs-filter}
use Rattle.std.specs.Prelude.{AllPairs}
use Rattle.std.specs.List.{AllByRecursion, flat_map, range_with_len}
use Rattle.sum_rows.specs.declared.row.Row.{Row}
use Rattle.sum_rows.specs.declared.row.State.{State}
use Rattle.sum_rows.specs.declared.row.State.TheVariants as state
use Rattle.sum_rows.specs.declared.row.Gives.{Gives}
use Rattle.sc_world.specs.Known.{row}
use Rattle.sc_world.specs.Verdict.{candidates}
use Rattle.world_laws.specs.Order.{IsStateBefore, IsResultBefore, IsRowBefore, by_given, by_before, by_result, by_after}

abbrev pub Rising : {X : Type 0} → (X → X → Type 0) → List X → Type 0
Rising R [] = Unit {0}
Rising R (x ∷ xs) = AllByRecursion (R x) xs × Rising R xs

pub pairs_of_rising : {X : Type 0} (R : X → X → Type 0) (xs : List X) → Rising R xs → AllPairs R xs
pairs_of_rising R [] up = λ i j d less inside. absurd (omega (arith, inside))
pairs_of_rising R (x ∷ xs) (first, rest) =
    AllPairs-cons R x xs (All-from_recursion (R x) xs first) (pairs_of_rising R xs rest)

each_append : {X : Type 0} (P : X → Type 0) (xs ys : List X) → AllByRecursion P xs → AllByRecursion P ys → AllByRecursion P (xs ++ ys)
each_append P [] ys all more = more
each_append P (x ∷ xs) ys (h, hs) more = (h, each_append P xs ys hs more)

pub each_of : {X : Type 0} (P : X → Type 0) → ((x : X) → P x) → (xs : List X) → AllByRecursion P xs
each_of P so [] = tt
each_of P so (x ∷ xs) = (so x, each_of P so xs)

each_map : {X Y : Type 0} (P : Y → Type 0) (f : X → Y) → ((x : X) → P (f x)) → (xs : List X) → AllByRecursion P (map f xs)
each_map P f so [] = tt
each_map P f so (x ∷ xs) = (so x, each_map P f so xs)

each_flat : {X Y : Type 0} (P : Y → Type 0) (f : X → List Y) → ((x : X) → AllByRecursion P (f x)) → (xs : List X)
    → AllByRecursion P (flat_map f xs)
each_flat P f so [] = tt
each_flat P f so (x ∷ xs) = each_append P (f x) (flat_map f xs) (so x) (each_flat P f so xs)

-- every element of one list stands before every one of another
abbrev Below : {X : Type 0} → (X → X → Type 0) → List X → List X → Type 0
Below R xs ys = AllByRecursion (λ x. AllByRecursion (R x) ys) xs

rising_append : {X : Type 0} (R : X → X → Type 0) (xs ys : List X) → Rising R xs → Rising R ys → Below R xs ys → Rising R (xs ++ ys)
rising_append R [] ys up more below = more
rising_append R (x ∷ xs) ys (first, rest) more (b, bs) =
    (each_append (R x) xs ys first b, rising_append R xs ys rest more bs)

below_both : {X : Type 0} (R : X → X → Type 0) (as' bs cs : List X) → Below R as' bs → Below R as' cs → Below R as' (bs ++ cs)
below_both R [] bs cs one two = tt
below_both R (a ∷ as') bs cs (p, ps) (q, qs) = (each_append (R a) bs cs p q, below_both R as' bs cs ps qs)

below_flat : {X Y : Type 0} (S : X → X → Type 0) (R : Y → Y → Type 0) (f : X → List Y) → ((x y : X) → S x y → Below R (f x) (f y))
    → (x : X) (xs : List X) → AllByRecursion (S x) xs → Below R (f x) (flat_map f xs)
below_flat S R f cross x [] all = each_of (λ a. AllByRecursion (R a) []) (λ a. tt) (f x)
below_flat S R f cross x (y ∷ ys) (less, rest) =
    below_both R (f x) (f y) (flat_map f ys) (cross x y less) (below_flat S R f cross x ys rest)

rising_flat : {X Y : Type 0} (S : X → X → Type 0) (R : Y → Y → Type 0) (f : X → List Y) → ((x : X) → Rising R (f x))
    → ((x y : X) → S x y → Below R (f x) (f y)) → (xs : List X) → Rising S xs → Rising R (flat_map f xs)
rising_flat S R f inner cross [] up = tt
rising_flat S R f inner cross (x ∷ xs) (first, rest) =
    rising_append R (f x) (flat_map f xs) (inner x) (rising_flat S R f inner cross xs rest) (below_flat S R f cross x xs first)

all_map : {X Y : Type 0} (P : X → Type 0) (Q : Y → Type 0) (f : X → Y) → ((x : X) → P x → Q (f x)) → (xs : List X)
    → AllByRecursion P xs → AllByRecursion Q (map f xs)
all_map P Q f so [] all = tt
all_map P Q f so (x ∷ xs) (h, hs) = (so x h, all_map P Q f so xs hs)

rising_map : {X Y : Type 0} (S : X → X → Type 0) (R : Y → Y → Type 0) (f : X → Y) → ((x y : X) → S x y → R (f x) (f y))
    → (xs : List X) → Rising S xs → Rising R (map f xs)
rising_map S R f so [] up = tt
rising_map S R f so (x ∷ xs) (first, rest) = (all_map (S x) (R (f x)) f (so x) xs first, rising_map S R f so xs rest)

range_above : (low a n : ℕ) → low < a → AllByRecursion (λ x. low < x) (range_with_len a n)
range_above low a zero less = tt
range_above low a (suc n) less = (less, range_above low (a + 1) n (omega (arith, less)))

pub rising_range : (a n : ℕ) → Rising (λ x y. x < y) (range_with_len a n)
rising_range a zero = tt
rising_range a (suc n) = (range_above a (a + 1) n (omega arith), rising_range (a + 1) n)

pub rising_states : (n : ℕ) → Rising IsStateBefore (map (λ k. state.At k) (range_with_len 0 n))
rising_states n =
    rising_map (λ x y. x < y) IsStateBefore (λ k. state.At k) (λ x y less. inr (refl, less)) (range_with_len 0 n) (rising_range 0 n)

pub states_and_error : (n : ℕ) → Rising IsStateBefore (map (λ k. state.At k) (range_with_len 0 n) ++ state.Bad ∷ [])
states_and_error n =
    rising_append IsStateBefore (map (λ k. state.At k) (range_with_len 0 n)) (state.Bad ∷ []) (rising_states n) (tt, tt)
    (each_map (λ a. AllByRecursion (IsStateBefore a) (state.Bad ∷ [])) (λ k. state.At k) (λ k. (inl (omega arith), tt)) (range_with_len 0 n))

-- the rows of some lists that rise rise
module _ (befores : List State) (rs : List Gives) (afters : List State) where
  ends : ℕ → State → Gives → List Row
  ends c b r = map (λ a. row c b r a) afters

  results : ℕ → State → List Row
  results c b = flat_map (ends c b) rs

  begins : ℕ → List Row
  begins c = flat_map (results c) befores

  by_results : (c : ℕ) (b : State) (r r' : Gives) → IsResultBefore r r' → Below IsRowBefore (ends c b r) (ends c b r')
  unfolding ends
  by_results c b r r' less =
      each_map (λ x. AllByRecursion (IsRowBefore x) (ends c b r')) (λ a. row c b r a)
      (λ a. each_map (IsRowBefore (row c b r a)) (λ a'. row c b r' a') (λ a'. by_result refl refl less) afters) afters

  by_befores : (c : ℕ) (b b' : State) → IsStateBefore b b' → Below IsRowBefore (results c b) (results c b')
  unfolding results ends
  by_befores c b b' less =
      each_flat (λ x. AllByRecursion (IsRowBefore x) (results c b')) (ends c b)
      (λ r. each_map (λ x. AllByRecursion (IsRowBefore x) (results c b')) (λ a. row c b r a)
      (λ a. each_flat (IsRowBefore (row c b r a)) (ends c b')
      (λ r'. each_map (IsRowBefore (row c b r a)) (λ a'. row c b' r' a') (λ a'. by_before refl less) afters) rs) afters) rs

  by_givens : (c c' : ℕ) → c < c' → Below IsRowBefore (begins c) (begins c')
  unfolding begins results ends
  by_givens c c' less =
      each_flat (λ x. AllByRecursion (IsRowBefore x) (begins c')) (results c)
      (λ b. each_flat (λ x. AllByRecursion (IsRowBefore x) (begins c')) (ends c b)
      (λ r. each_map (λ x. AllByRecursion (IsRowBefore x) (begins c')) (λ a. row c b r a)
      (λ a. each_flat (IsRowBefore (row c b r a)) (results c')
      (λ b'. each_flat (IsRowBefore (row c b r a)) (ends c' b')
      (λ r'. each_map (IsRowBefore (row c b r a)) (λ a'. row c' b' r' a') (λ a'. by_given less) afters) rs) befores) afters) rs) befores

  pub rising_candidates : (cs : List ℕ) → Rising (λ x y. x < y) cs → Rising IsStateBefore befores → Rising IsResultBefore rs
      → Rising IsStateBefore afters → Rising IsRowBefore (candidates cs befores rs afters)
  unfolding begins results ends
  rising_candidates cs givens_up befores_up results_up afters_up =
      rising_flat (λ x y. x < y) IsRowBefore begins
      (λ c. rising_flat IsStateBefore IsRowBefore (results c)
      (λ b. rising_flat IsResultBefore IsRowBefore (ends c b)
      (λ r. rising_map IsStateBefore IsRowBefore (λ a. row c b r a) (λ a a' less. by_after refl refl refl less) afters afters_up)
      (by_results c b) rs results_up)
      (by_befores c) befores befores_up)
      by_givens cs givens_up

pub in_order : (p : Row → Bool) (rows : List Row) → Rising IsRowBefore rows → AllPairs IsRowBefore (filter p rows)
in_order p rows up = AllPairs-filter IsRowBefore p rows (pairs_of_rising IsRowBefore rows up)
