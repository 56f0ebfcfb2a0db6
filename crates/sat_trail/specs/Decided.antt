-- Decisions, and the values of a full trail.

use Rattle.std.specs.Prelude.{◌≡◌, ℕ, ◌<◌, ◌≤◌, Bool, false, List, length}
use Rattle.sat_base.specs.Logic.{at}
use Rattle.sat_trail.specs.declared.trail.Put.{Put}
use Rattle.sat_trail.specs.declared.trail.Put.TheVariants.{Done, Taken, Absent}
use Rattle.sat_trail.specs.declared.decisions.Choice.{Choice}
use Rattle.sat_trail.specs.declared.decisions.Choice.TheVariants.{Made, Full}
use Rattle.sat_trail.specs.Steps.{TrailState, AllTrue, Follows, Tells}
use Rattle.sat_trail.specs.Weight.{trail_weight}

-- a decision was put
pub record IsDecision (old new : TrailState) : Type 0 where
  pub vars : new.vars ≡ old.vars
  pub heavier : trail_weight old < trail_weight new
  pub follows : (f : ℕ → Bool) → Follows f old.steps → Follows f new.steps

abbrev pub IsDecided : TrailState → TrailState → ℕ → Put → Type 0
IsDecided old new var Done = IsDecision old new
IsDecided old new var (Taken value) = (new ≡ old) × Tells old.steps (record { var = var; neg = false }) value
IsDecided old new var Absent = (new ≡ old) × (old.vars ≤ var)

-- the values of all variables are those of the steps
pub record Agrees (t : TrailState) (values : List Bool) : Type 0 where
  pub size : length values ≡ t.vars
  pub told : (f : ℕ → Bool) → AllTrue f t.steps → (x : ℕ) → x < t.vars → f x ≡ at values x

-- a decision was put, or all variables have these values
abbrev pub IsChoice : TrailState → TrailState → Choice → Type 0
IsChoice old new Made = IsDecision old new
IsChoice old new (Full values) = (new ≡ old) × Agrees old values.items
