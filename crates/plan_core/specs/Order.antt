-- What is kept while the functions of a plan are put in an order in which each stands behind its
-- callees. `placed` says of each function whether it has its place, `met` how many of its first
-- callees were found to have theirs, `waiting` which functions wait for it, and `order` is the order.
use Rattle.std.specs.Prelude.{◌≡◌, ℕ, ◌<◌, ◌≤◌, Bool, true, false, List, [], length, slice_index, slice_index_or, Contains, nat_eq, ◌⊎◌}
use Rattle.std.specs.List.{list_any, IsDistinct}
use Rattle.std.specs.List.Sorted.{IsStrictlyIncreasing}
use Rattle.plan_core.specs.Graph.{callees, Walk}
use Rattle.plan_core.specs.declared.order.Order.{Order}

-- a row of kept callees in a plan of n functions: ascending, each once, and functions of the plan
pub record IsRow (n : ℕ) (row : List ℕ) : Type 0 where
  pub rising : IsStrictlyIncreasing row
  pub inside : (g : ℕ) → Contains row g → g < n

abbrev pub HasNoCycle : List (List ℕ) → Type 0
HasNoCycle rows = (f : ℕ) → ¬ Walk rows f f

-- whether f has its place
abbrev pub is_placed : List Bool → ℕ → Bool
is_placed placed f = slice_index_or placed f false

abbrev pub waiters : List (List ℕ) → ℕ → List ℕ
waiters waiting g = slice_index_or waiting g []

pub record Keeps (rows : List (List ℕ)) (placed : List Bool) (met : List ℕ) (waiting : List (List ℕ)) (order : List ℕ) : Type 0 where
  pub placed_many : length placed ≡ length rows
  pub met_many : length met ≡ length rows
  pub waiting_many : length waiting ≡ length rows
  pub closed : (f g : ℕ) → is_placed placed f ≡ true → Contains (callees rows f) g → is_placed placed g ≡ true
  pub acyclic : (f : ℕ) → is_placed placed f ≡ true → ¬ Walk rows f f
  pub met_placed : (f k : ℕ) → k < slice_index met f → is_placed placed (slice_index (callees rows f) k) ≡ true
  pub met_few : (f : ℕ) → slice_index met f ≤ length (callees rows f)
  pub listed : (f : ℕ) → list_any (nat_eq f) order ≡ true → is_placed placed f ≡ true
  pub distinct : IsDistinct nat_eq order
  pub inside : (g f : ℕ) → Contains (waiters waiting g) f → f < length rows

abbrev pub IsKept : List (List ℕ) → Order → Type 0
IsKept rows s = Keeps rows s.placed.items s.met.items s.waiting.items s.order.items

-- g stands in the order, at this place or behind it
abbrev pub StandsFrom : ℕ → List ℕ → ℕ → Type 0
StandsFrom turn order g = (j : ℕ) × (turn ≤ j) × (j < length order) × (slice_index order j ≡ g)

-- f has its place, or waits for a callee that has none or stands in the order from this turn on
abbrev pub Settled : List (List ℕ) → List Bool → List (List ℕ) → List ℕ → ℕ → ℕ → Type 0
Settled rows placed waiting order turn f =
    (is_placed placed f ≡ true)
    ⊎ ((g : ℕ) × Contains (callees rows f) g × Contains (waiters waiting g) f × ((is_placed placed g ≡ false) ⊎ StandsFrom turn order g))

abbrev pub IsSettled : List (List ℕ) → Order → ℕ → ℕ → Type 0
IsSettled rows s turn f = Settled rows s.placed.items s.waiting.items s.order.items turn f
