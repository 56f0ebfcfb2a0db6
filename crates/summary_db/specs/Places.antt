-- The places of a plan, and which of them touch a function. There is a place for each kept edge, in
-- the order of the rows, and then one for each function's result: its taker is the reader, whose
-- number is the number of functions.
use Rattle.std.specs.Prelude.{◌≡◌, ◌≢◌, ℕ, zero, suc, ◌+◌, ◌<◌, ◌==◌, Bool, true, false, if◌then◌else◌}
use Rattle.std.specs.Prelude.{List, [], ◌∷◌, ◌++◌, length, map, take, drop, slice_index, count_by}
use Rattle.std.specs.List.{range_with_len}
use lib.ListN.{get_elem?}
use mathlib.Core.Option.{Option, some, none}
use Rattle.plan_core.specs.Graph.{callees}
use Rattle.summary_db.specs.declared.place.Place.{Place}
use Rattle.summary_db.specs.Views.{member}

abbrev pub edge : ℕ → ℕ → Place
edge taker giver = record { taker = taker; giver = giver }

-- the edges of the first k functions
unfoldable pub edges_before : List (List ℕ) → ℕ → List Place
edges_before rows zero = []
edges_before rows (suc k) = edges_before rows k ++ map (edge k) (callees rows k)

-- all places
unfoldable pub places_of : List (List ℕ) → List Place
places_of rows = edges_before rows (length rows) ++ map (edge (length rows)) (range_with_len 0 (length rows))

-- the numbers, from n on, of the places that pass the test
unfoldable pub numbers_where : (Place → Bool) → ℕ → List Place → List ℕ
numbers_where test n [] = []
numbers_where test n (p ∷ ps) = if test p then n ∷ numbers_where test (n + 1) ps else numbers_where test (n + 1) ps

abbrev pub is_taker : ℕ → Place → Bool
is_taker f p = p.taker == f

abbrev pub is_giver : ℕ → Place → Bool
is_giver f p = p.giver == f

-- the places from which f takes, one for each callee in order
unfoldable pub takes_of : List (List ℕ) → ℕ → List ℕ
takes_of rows f = numbers_where (is_taker f) 0 (places_of rows)

-- the places to which f gives
unfoldable pub gives_of : List (List ℕ) → ℕ → List ℕ
gives_of rows f = numbers_where (is_giver f) 0 (places_of rows)

-- all places of f
abbrev pub slots_of : List (List ℕ) → ℕ → List ℕ
slots_of rows f = takes_of rows f ++ gives_of rows f

-- the place of this number
abbrev pub IsPlace : List (List ℕ) → ℕ → Place → Type 0
IsPlace rows i p = get_elem? (places_of rows) i ≡ some p

-- what the layout rests on: no function calls itself, each callee is a function of the plan, and a
-- row has each callee once
pub record IsLaidOut (rows : List (List ℕ)) : Type 0 where
  pub loop_free : (f : ℕ) → member f (callees rows f) ≡ false
  pub inside : (f g : ℕ) → member g (callees rows f) ≡ true → g < length rows
  pub rising :
      (f k : ℕ) → k + 1 < length (callees rows f)
      → slice_index (callees rows f) k < slice_index (callees rows f) (k + 1)

-- how many functions have f as a kept callee
abbrev pub callers : List (List ℕ) → ℕ → ℕ
callers rows f = count_by (λ g. member f (callees rows g)) (range_with_len 0 (length rows))

-- the list has a pair for each of the numbers, in order, whose second part is as P says
abbrev pub Holds : {S : Type 0} → (ℕ → S → Type 0) → List ℕ → List (ℕ × S) → Type 0
Holds P [] [] = Unit {0}
Holds P [] (x ∷ xs) = ⊥
Holds P (k ∷ ks) [] = ⊥
Holds P (k ∷ ks) (x ∷ xs) = (x.0 ≡ k) × P k x.1 × Holds P ks xs

-- what lies in the place i is the output of its giver, where f is its taker
abbrev pub Given : {S : Type 0} → List (List ℕ) → (ℕ → S → Type 0) → ℕ → ℕ → S → Type 0
Given rows good f i y = (p : Place) → IsPlace rows i p → p.taker ≡ f → good p.giver y

-- what goes into the place i is the output of f, where f is its giver
abbrev pub Fills : {S : Type 0} → List (List ℕ) → (ℕ → S → Type 0) → ℕ → ℕ → S → Type 0
Fills rows good f i y = (p : Place) → IsPlace rows i p → p.giver ≡ f → good f y

-- what is left of a job's slots once it was asked: nothing
abbrev pub Spent : {S : Type 0} → List (List ℕ) → S → ℕ → ℕ → S → Type 0
Spent rows empty f i y = (y ≡ empty) × ((p : Place) → IsPlace rows i p → p.giver ≢ f)

-- the list goes round over the numbers ks: the first k of them are behind, as Q says, the others ahead, as P says
pub record Rolled {S : Type 0} (P Q : ℕ → S → Type 0) (ks : List ℕ) (k : ℕ) (l : List (ℕ × S)) : Type 0 where
  pub front : List (ℕ × S)
  pub back : List (ℕ × S)
  pub whole : l ≡ front ++ back
  pub ahead : Holds P (drop k ks) front
  pub behind : Holds Q (take k ks) back

-- nothing is said of a slot
abbrev pub Anything : {S : Type 0} → ℕ → S → Type 0
Anything i y = Unit {0}
