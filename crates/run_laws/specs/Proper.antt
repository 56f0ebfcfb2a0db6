-- Proper worlds: what holds of the store at entry and after every step of a run; and what this asks of a layout.
use Rattle.std.specs.Prelude.{◌≡◌, ℕ, ◌+◌, ◌<◌, ◌≤◌, true, IfSome, length, slice_index_or}
use Rattle.run_store.specs.Concrete.{Cell, Number, Nothing, nth_cell, kind_of}
use Rattle.sc_world.specs.Source.{Source}
use Rattle.sc_world.specs.Layout.{Layout, Location, location, is_outer, no_occurrence, spot_at}
use Rattle.sc_world.specs.World.{World, Env, target_of, state_width, states, kind_of_type}

-- The objects that a layout names, behind pointers, of calls and of what calls may set, are among its locations.
pub record IsClosed (p : Layout) : Type 0 where
  pub targets : (at : ℕ) → IfSome (location p at).target (λ to. to < length p.locations)
  pub objects : (k : ℕ) → IfSome (slice_index_or p.occurrences k no_occurrence).object (λ to. to < length p.locations)
  pub spots : (k : ℕ) → IfSome (spot_at p k).object (λ to. to < length p.locations)

-- null, a pointer to a location, or no pointer: a pointer to location l has the target l + 1
abbrev pub PointsInside : Layout → Cell → Type 0
PointsInside p c = target_of c ≤ length p.locations

-- a number of 4 bits; and where callers know the location, the number of a state of the machine
abbrev pub IsState : Source → Location → Cell → Type 0
IsState s l c = (k : ℕ) × (c ≡ Number state_width k) × (is_outer l ≡ true → k < states s)

-- The store has two cells for each location. No pointer leads out of the layout, each cell is of the kind that the
-- type of its location has, and each state is one.
pub record IsProper (s : Source) (p : Layout) (w : World) : Type 0 where
  pub long : length w.places ≡ length p.locations + length p.locations
  pub inside : (at : ℕ) → PointsInside p (nth_cell w.places at)
  pub kinds : (at : ℕ) → at < length p.locations → kind_of (nth_cell w.places at) ≡ kind_of_type s (location p at).type
  pub states : (at : ℕ) → at < length p.locations
      → IsState s (location p at) (nth_cell w.places (length p.locations + at))

-- what was kept of values and places points into the layout
abbrev pub KeepsInside : Env → Type 0
KeepsInside env = (k : ℕ) → PointsInside env.layout (slice_index_or env.temps k Nothing)
