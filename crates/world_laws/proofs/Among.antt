-- What passes a test, and what the answers of the runs are.
use Rattle.std.proofs.Common.{◌≡◌, ℕ, Bool, true, false, cond, List, [], ◌∷◌, length, filter, refl, sym, subst, ap, ◌∙◌, ◌<◌, ◌&&◌, arith}
use Rattle.std.proofs.lemmas.Bool.{true≢false, and_parts, and_from}
use Rattle.std.proofs.lemmas.List.FromFn.{get_or-range_with_len, length-range_with_len}
use Rattle.std.proofs.lemmas.List.Elements.{All-filter, All-contains, All-contains_itself, filter_passes, filter_agree, All-from_recursion, Contains-append_left, Contains-append_right, Contains-push}
use Rattle.std.specs.Prelude.{◌↔◌, Option, Some, None, Contains}
use Rattle.std.specs.List.{AllByRecursion, range_with_len}
use Rattle.sum_rows.specs.declared.row.Row.{Row}
use Rattle.sc_world.specs.Layout.{Location, location}
use Rattle.sc_world.specs.Source.{Source}
use Rattle.sc_world.specs.Paths.{Texts}
use Rattle.sc_world.specs.Choices.{first_choice, IsLeast}
use Rattle.sc_world.specs.Shows.{Query}
use Rattle.sc_world.specs.Verdict.{shows, first_run, is_there, answers}
use Rattle.world_laws.specs.Runs.{SomeRun}

-- the two halves of the law on first choices
abbrev pub FirstIsLeast : Type 0
FirstIsLeast = (n : ℕ) (test : List Bool → Bool) (c : List Bool) → first_choice n test ≡ Some c → IsLeast n test c

abbrev pub FirstIsThere : Type 0
FirstIsThere =
    (n : ℕ) (test : List Bool → Bool) (d : List Bool) → length d ≡ n → test d ≡ true → (c : List Bool) × (first_choice n test ≡ Some c)

there : {A : Type 0} (o : Option A) → is_there o ≡ true → (a : A) × (o ≡ Some a)
there None h = absurd (true≢false (sym h))
there (Some a) h = (a, refl)

pub some_from : FirstIsLeast → (s : Source) (x : Texts) (q : Query) → (answers s x).some q ≡ true → SomeRun s x q
some_from least s x q h =
    let found = there (first_run s x q) h in
    let is = least x.layout.bits (shows s x q) found.0 found.1 in
    (found.0, is.long, is.passes)

pub some_to : FirstIsThere → (s : Source) (x : Texts) (q : Query) → SomeRun s x q → (answers s x).some q ≡ true
some_to some s x q (c, long, passes) =
    let found = some x.layout.bits (shows s x q) c long passes in ap is_there found.1

module _ {X : Type 0} (p : X → Bool) where
  also : (b : Bool) (x y : X) (xs : List X) → Contains xs y → Contains (cond b (x ∷ xs) xs) y
  also true x y xs has = Contains-append_right (x ∷ []) xs y has
  also false x y xs has = has

  here : (b : Bool) (x : X) (xs : List X) → b ≡ true → Contains (cond b (x ∷ xs) xs) x
  here true x xs h = Contains-append_left (x ∷ []) xs x (Contains-push [] x)
  here false x xs h = absurd (true≢false (sym h))

  weaker : (P Q : X → Type 0) → ((x : X) → P x → Q x) → (xs : List X) → AllByRecursion P xs → AllByRecursion Q xs
  weaker P Q so [] all = tt
  weaker P Q so (x ∷ xs) (h, hs) = (so x h, weaker P Q so xs hs)

  kept : (xs : List X) → AllByRecursion (λ x. p x ≡ true → Contains (filter p xs) x) xs
  kept [] = tt
  kept (x ∷ xs) = (
    here (p x) x (filter p xs),
    weaker (λ y. p y ≡ true → Contains (filter p xs) y) (λ y. p y ≡ true → Contains (filter p (x ∷ xs)) y)
        (λ y has h. also (p x) x y (filter p xs) (has h)) xs (kept xs),
  )

  pub among_to : (xs : List X) (x : X) → Contains xs x → p x ≡ true → Contains (filter p xs) x
  among_to xs x has h =
      All-contains (λ y. p y ≡ true → Contains (filter p xs) y) xs x
      (All-from_recursion (λ y. p y ≡ true → Contains (filter p xs) y) xs (kept xs)) has h

  pub among_from : (xs : List X) (x : X) → Contains (filter p xs) x → Contains xs x × (p x ≡ true)
  among_from xs x has = (
    All-contains (Contains xs) (filter p xs) x (All-filter p (Contains xs) xs (All-contains_itself xs)) has,
    All-contains (λ y. p y ≡ true) (filter p xs) x (filter_passes p xs) has,
  )

-- of the elements exactly those stand of which some run answers yes
pub those : FirstIsLeast → FirstIsThere → {X : Type 0} (s : Source) (x : Texts) (query : X → Query) (xs : List X) (r : X)
    → Contains (filter (λ y. (answers s x).some (query y)) xs) r ↔ (Contains xs r × SomeRun s x (query r))
those least some s x query xs r = (
  λ has. let parts = among_from (λ y. (answers s x).some (query y)) xs r has in (parts.0, some_from least s x (query r) parts.1),
  λ parts. among_to (λ y. (answers s x).some (query y)) xs r parts.0 (some_to some s x (query r) parts.1),
)

-- where each row that a run has is a candidate, exactly those rows stand that some run has
pub all_those : FirstIsLeast → FirstIsThere → (s : Source) (x : Texts) (query : Row → Query) (xs : List Row)
    → ((r : Row) (c : List Bool) → shows s x (query r) c ≡ true → Contains xs r) → (r : Row)
    → Contains (filter (λ y. (answers s x).some (query y)) xs) r ↔ SomeRun s x (query r)
all_those least some s x query xs covers r =
    let both = those least some s x query xs r in
    (λ has. (both.0 has).1, λ run. both.1 (covers r run.0 run.2, run))

in_range : (n k : ℕ) → k < n → Contains (range_with_len 0 n) k
in_range n k less =
    (k, subst (λ m. k < m) (sym (length-range_with_len 0 n)) less, get_or-range_with_len 0 n k k less ∙ omega arith)

from_range : (n k : ℕ) → Contains (range_with_len 0 n) k → k < n
from_range n k (i, inside, is) =
    let within : i < n = subst (λ m. i < m) (length-range_with_len 0 n) inside in
    omega (arith, within, is, get_or-range_with_len 0 n i k within)

-- the same of locations that pass a test
pub those_locations : FirstIsLeast → FirstIsThere → (s : Source) (x : Texts) (query : ℕ → Query) (test : Location → Bool) (at : ℕ)
    → Contains (filter (λ n. test (location x.layout n) && (answers s x).some (query n)) (range_with_len 0 (length x.layout.locations))) at
    ↔ ((at < length x.layout.locations) × (test (location x.layout at) ≡ true) × SomeRun s x (query at))
those_locations least some s x query test at =
    let p : ℕ → Bool = λ n. test (location x.layout n) && (answers s x).some (query n) in
    let ns = range_with_len 0 (length x.layout.locations) in (
      λ has.
          let parts = among_from p ns at has in
          let tests = and_parts (test (location x.layout at)) ((answers s x).some (query at)) parts.1 in
          (from_range (length x.layout.locations) at parts.0, tests.0, some_from least s x (query at) tests.1),
      λ parts.
          among_to p ns at (in_range (length x.layout.locations) at parts.0)
          (and_from (test (location x.layout at)) ((answers s x).some (query at)) parts.1 (some_to some s x (query at) parts.2)),
    )

and_assoc : (a b c : Bool) → (a && b) && c ≡ a && (b && c)
and_assoc true b c = refl
and_assoc false b c = refl

-- the same with two tests
pub those_of_two : FirstIsLeast → FirstIsThere → (s : Source) (x : Texts) (query : ℕ → Query) (one two : Location → Bool) (at : ℕ)
    → Contains
    (filter (λ n. one (location x.layout n) && (two (location x.layout n) && (answers s x).some (query n))) (range_with_len 0 (length x.layout.locations))) at
    ↔ ((at < length x.layout.locations) × (one (location x.layout at) && two (location x.layout at) ≡ true) × SomeRun s x (query at))
those_of_two least some s x query one two at =
    let agree =
    filter_agree (λ n. (one (location x.layout n) && two (location x.layout n)) && (answers s x).some (query n))
    (λ n. one (location x.layout n) && (two (location x.layout n) && (answers s x).some (query n)))
    (λ n. and_assoc (one (location x.layout n)) (two (location x.layout n)) ((answers s x).some (query n)))
    (range_with_len 0 (length x.layout.locations)) in
    subst
    (λ ns.
    Contains ns at
    ↔ ((at < length x.layout.locations) × (one (location x.layout at) && two (location x.layout at) ≡ true) × SomeRun s x (query at)))
    agree
    (those_locations least some s x query (λ l. one l && two l) at)
