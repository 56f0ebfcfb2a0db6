-- Two rows that differ in the state afterwards alone, with and without the functions that try to lock. Pairs of rows are
-- a type of their own for each source, so the pairs of one source are mapped to those of the other.
use Rattle.std.proofs.Common.{◌≡◌, ℕ, List, [], ◌∷◌, ◌++◌, map, refl, ◌∙◌}
use Rattle.std.specs.Prelude.{Bool, true, false, filter, if◌then◌else◌}
use Rattle.std.specs.List.{flat_map}
use Rattle.sum_rows.specs.declared.row.State.{State}
use Rattle.sum_rows.specs.declared.row.Gives.{Gives}
use Rattle.sum_rows.specs.declared.report.Verdict.TheVariants as verdict
use Rattle.sc_world.specs.Source.{Source}
use Rattle.sc_world.specs.Paths.{Texts}
use Rattle.sc_world.specs.Verdict.{Answers, Pair, pair, pairs, pairs_of, both_stand, ambiguous, ambiguous_for, first_of, givens, machine_states, results, summary, double, touched, inner, texts_from, numbers, leak, places_of_calls, done_with}
use Rattle.machine_laws.proofs.Names.{with_tries}

-- Lists.

map_append : {A B : Type 0} (f : A → B) (xs ys : List A) → map f (xs ++ ys) ≡ map f xs ++ map f ys
map_append f [] ys = refl
map_append f (x ∷ xs) ys = λ i. f x ∷ map_append f xs ys i

map_each : {A B C : Type 0} (f : B → C) (g : A → B) (h : A → C) → ((a : A) → f (g a) ≡ h a) → (xs : List A) → map f (map g xs) ≡ map h xs
map_each f g h e [] = refl
map_each f g h e (x ∷ xs) = λ i. e x i ∷ map_each f g h e xs i

map_flat : {A B C : Type 0} (f : B → C) (g : A → List B) (h : A → List C) → ((a : A) → map f (g a) ≡ h a) → (xs : List A)
    → map f (flat_map g xs) ≡ flat_map h xs
map_flat f g h e [] = refl
map_flat f g h e (x ∷ xs) = map_append f (g x) (flat_map g xs) ∙ (λ i. e x i ++ map_flat f g h e xs i)

map_if : {A B : Type 0} (f : A → B) (b : Bool) (x : A) (xs : List A) (ys : List B) → map f xs ≡ ys
    → map f (if b then x ∷ xs else xs) ≡ (if b then f x ∷ ys else ys)
map_if f true x xs ys e = λ i. f x ∷ e i
map_if f false x xs ys e = e

map_filter : {A B : Type 0} (f : A → B) (test : A → Bool) (other : B → Bool) → ((a : A) → test a ≡ other (f a)) → (xs : List A)
    → map f (filter test xs) ≡ filter other (map f xs)
map_filter f test other e [] = refl
map_filter f test other e (x ∷ xs) =
    map_if f (test x) x (filter test xs) (filter other (map f xs)) (map_filter f test other e xs)
    ∙ (λ i. if e x i then f x ∷ filter other (map f xs) else filter other (map f xs))

module _ (s : Source) (x : Texts) (q : Answers) where
  abbrev one : Source
  one = with_tries s true

  abbrev other : Source
  other = with_tries s false

  to : Pair one x q → Pair other x q
  to p = record { given = p.given; before = p.before; result = p.result; one = p.one; other = p.other }

  pair_same : (c : ℕ) (b : State) (r : Gives) (two : State × State) → to (pair one x q c b r two) ≡ pair other x q c b r two
  unfolding to
  pair_same c b r two = refl

  pairs_same : map to (pairs one x q) ≡ pairs other x q
  pairs_same = map_flat to (λ c. flat_map (λ b. flat_map (λ r. map (pair one x q c b r) (pairs_of one x q (machine_states s))) (results s)) (machine_states s))
      (λ c. flat_map (λ b. flat_map (λ r. map (pair other x q c b r) (pairs_of other x q (machine_states s))) (results s)) (machine_states s))
      (λ c. map_flat to (λ b. flat_map (λ r. map (pair one x q c b r) (pairs_of one x q (machine_states s))) (results s))
      (λ b. flat_map (λ r. map (pair other x q c b r) (pairs_of other x q (machine_states s))) (results s))
      (λ b. map_flat to (λ r. map (pair one x q c b r) (pairs_of one x q (machine_states s)))
      (λ r. map (pair other x q c b r) (pairs_of other x q (machine_states s)))
      (λ r. map_each to (pair one x q c b r) (pair other x q c b r) (pair_same c b r) (pairs_of one x q (machine_states s)))
      (results s)) (machine_states s)) (givens s)

  stand_same : (at : ℕ) (p : Pair one x q) → both_stand one x q at p ≡ both_stand other x q at (to p)
  unfolding to
  stand_same at p = refl

  found_same : (at : ℕ) → map to (filter (both_stand one x q at) (pairs one x q)) ≡ filter (both_stand other x q at) (pairs other x q)
  found_same at = map_filter to (both_stand one x q at) (both_stand other x q at) (stand_same at) (pairs one x q)
      ∙ (λ i. filter (both_stand other x q at) (pairs_same i))

  first_same : (at : ℕ) (ps : List (Pair one x q))
      → ambiguous_for one x q at (first_of one x q ps) ≡ ambiguous_for other x q at (first_of other x q (map to ps))
  unfolding to
  first_same at [] = refl
  first_same at (p ∷ ps) = refl

  ambiguous_same : (at : ℕ) → ambiguous one x q at ≡ ambiguous other x q at
  ambiguous_same at = first_same at (filter (both_stand one x q at) (pairs one x q))
      ∙ (λ i. ambiguous_for other x q at (first_of other x q (found_same at i)))

  pub done_same : done_with one x q ≡ done_with other x q
  done_same = λ i. verdict.Done (summary one x q)
      (flat_map (double one x q) (touched one x q)
      ++ (flat_map (λ at. ambiguous_same at i) (touched one x q)
      ++ (flat_map (inner one x q) (texts_from one x q [] (numbers one x q))
      ++ flat_map (leak one x q) (places_of_calls one x q [] x.layout.sites))))
