-- Two rows that differ in the state afterwards alone, with names that come later and without them. Pairs of rows are
-- a type of their own for each source, so the pairs of one source are mapped to those of the other.
use Rattle.std.proofs.Common.{◌≡◌, ℕ, List, [], ◌∷◌, ◌++◌, map, refl, ◌∙◌}
use Rattle.std.specs.Prelude.{Bool, true, false, filter, if◌then◌else◌}
use Rattle.std.specs.List.{flat_map}
use Rattle.sum_rows.specs.declared.row.State.{State}
use Rattle.sum_rows.specs.declared.row.Gives.{Gives}
use Rattle.sum_rows.specs.declared.report.Verdict.TheVariants as verdict
use Rattle.sc_world.specs.Source.{Source}
use Rattle.sc_base.specs.declared.pos.NameId.{NameId}
use Rattle.sc_world.specs.Paths.{Texts, text_at}
use Rattle.sc_world.specs.Shows.{EndsAt}
use Rattle.sc_world.specs.Verdict.{Answers, Pair, pair, pairs, pairs_of, both_stand, ambiguous, ambiguous_for, first_of, givens, machine_states, results, summary, double, touched, inner, texts_from, numbers, leak, places_of_calls, done_with, with_text}
use Rattle.sc_world.specs.Layout.{Layout}
use Rattle.source_laws.specs.Named.{Tables, with_tables, texts_with}

-- Lists.

map_append : {A B : Type 0} (f : A → B) (xs ys : List A) → map f (xs ++ ys) ≡ map f xs ++ map f ys
map_append f [] ys = refl
map_append f (x ∷ xs) ys = λ i. f x ∷ map_append f xs ys i

map_each : {A B C : Type 0} (f : B → C) (g : A → B) (h : A → C) → ((a : A) → f (g a) ≡ h a) → (xs : List A) → map f (map g xs) ≡ map h xs
map_each f g h e [] = refl
map_each f g h e (x ∷ xs) = λ i. e x i ∷ map_each f g h e xs i

map_flat : {A B C : Type 0} (f : B → C) (g : A → List B) (h : A → List C) → ((a : A) → map f (g a) ≡ h a) → (xs : List A)
    → map f (flat_map g xs) ≡ flat_map h xs
map_flat f g h e [] = refl
map_flat f g h e (x ∷ xs) = map_append f (g x) (flat_map g xs) ∙ (λ i. e x i ++ map_flat f g h e xs i)

map_if : {A B : Type 0} (f : A → B) (b : Bool) (x : A) (xs : List A) (ys : List B) → map f xs ≡ ys
    → map f (if b then x ∷ xs else xs) ≡ (if b then f x ∷ ys else ys)
map_if f true x xs ys e = λ i. f x ∷ e i
map_if f false x xs ys e = e

map_filter : {A B : Type 0} (f : A → B) (test : A → Bool) (other : B → Bool) → ((a : A) → test a ≡ other (f a)) → (xs : List A)
    → map f (filter test xs) ≡ filter other (map f xs)
map_filter f test other e [] = refl
map_filter f test other e (x ∷ xs) =
    map_if f (test x) x (filter test xs) (filter other (map f xs)) (map_filter f test other e xs)
    ∙ (λ i. if e x i then f x ∷ filter other (map f xs) else filter other (map f xs))

module _ (old new : Tables) (s : Source) (params globals locals : List NameId) (p : Layout)
    (texts : (at : ℕ) → text_at (texts_with params globals locals old.names p) at ≡ text_at (texts_with params globals locals new.names p) at)
    (q : Answers) where
  abbrev one : Source
  one = with_tables s old

  abbrev other : Source
  other = with_tables s new

  abbrev before : Texts
  before = texts_with params globals locals old.names p

  abbrev after : Texts
  after = texts_with params globals locals new.names p

  to : Pair one before q → Pair other after q
  to k = record { given = k.given; before = k.before; result = k.result; one = k.one; other = k.other }

  pair_same : (c : ℕ) (b : State) (r : Gives) (two : State × State) → to (pair one before q c b r two) ≡ pair other after q c b r two
  unfolding to
  pair_same c b r two = refl

  pairs_same : map to (pairs one before q) ≡ pairs other after q
  pairs_same = map_flat to (λ c. flat_map (λ b. flat_map (λ r. map (pair one before q c b r) (pairs_of one before q (machine_states s))) (results s)) (machine_states s))
      (λ c. flat_map (λ b. flat_map (λ r. map (pair other after q c b r) (pairs_of other after q (machine_states s))) (results s)) (machine_states s))
      (λ c. map_flat to (λ b. flat_map (λ r. map (pair one before q c b r) (pairs_of one before q (machine_states s))) (results s))
      (λ b. flat_map (λ r. map (pair other after q c b r) (pairs_of other after q (machine_states s))) (results s))
      (λ b. map_flat to (λ r. map (pair one before q c b r) (pairs_of one before q (machine_states s)))
      (λ r. map (pair other after q c b r) (pairs_of other after q (machine_states s)))
      (λ r. map_each to (pair one before q c b r) (pair other after q c b r) (pair_same c b r) (pairs_of one before q (machine_states s)))
      (results s)) (machine_states s)) (givens s)

  stand_same : (at : ℕ) (k : Pair one before q) → both_stand one before q at k ≡ both_stand other after q at (to k)
  unfolding to
  stand_same at k = refl

  found_same : (at : ℕ) → map to (filter (both_stand one before q at) (pairs one before q)) ≡ filter (both_stand other after q at) (pairs other after q)
  found_same at = map_filter to (both_stand one before q at) (both_stand other after q at) (stand_same at) (pairs one before q)
      ∙ (λ i. filter (both_stand other after q at) (pairs_same i))

  first_same : (at : ℕ) (ps : List (Pair one before q))
      → ambiguous_for one before q at (first_of one before q ps) ≡ ambiguous_for other after q at (first_of other after q (map to ps))
  unfolding to
  first_same at [] = refl
  first_same at (k ∷ ks) = refl

  ambiguous_same : (at : ℕ) → ambiguous one before q at ≡ ambiguous other after q at
  ambiguous_same at = first_same at (filter (both_stand one before q at) (pairs one before q))
      ∙ (λ i. ambiguous_for other after q at (first_of other after q (found_same at i)))

  texts_from_same : (ts : List (List ℕ)) (ats : List ℕ) → texts_from one before q ts ats ≡ texts_from other after q ts ats
  texts_from_same ts [] = refl
  texts_from_same ts (at ∷ ats) =
      (λ i. texts_from one before q (if q.some (EndsAt at) then with_text one before q (texts at i) ts else ts) ats)
      ∙ texts_from_same (if q.some (EndsAt at) then with_text other after q (text_at after at) ts else ts) ats

  pub done_same : done_with one before q ≡ done_with other after q
  done_same = λ i. verdict.Done (summary one before q)
      (flat_map (double one before q) (touched one before q)
      ++ (flat_map (λ at. ambiguous_same at i) (touched one before q)
      ++ (flat_map (inner one before q) (texts_from_same [] (numbers one before q) i)
      ++ flat_map (leak one before q) (places_of_calls one before q [] p.sites))))
