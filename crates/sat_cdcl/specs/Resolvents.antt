-- Clauses that are derived from others by resolution.

use Rattle.std.specs.Prelude.{◌≡◌, ◌⊎◌, ℕ, ◌<◌, false, List, Option, Some, length, take, slice_get}
use Rattle.std.specs.List.{Contains}
use Rattle.sat_base.specs.declared.literal.Lit.{Lit}
use Rattle.sat_trail.specs.declared.trail.Step.{Step}
use Rattle.sat_trail.specs.Looks.{OthersFalse}

-- the new clause has the literals of the old one, and this literal
pub record Takes (old new : List Lit) (l : Lit) : Type 0 where
  pub kept : (q : Lit) → Contains old q → Contains new q
  pub taken : Contains new l

-- the new clause has the literals of the old one, and those of the other clause except this literal
pub record TakesAll (old new : List Lit) (clause : List Lit) (but : Option Lit) : Type 0 where
  pub kept : (q : Lit) → Contains old q → Contains new q
  pub taken : (q : Lit) → Contains clause q → (but ≡ Some q) ⊎ Contains new q

-- the new clause has the literals of the old one except that of this place
abbrev pub Leaves : List Lit → List Lit → ℕ → Type 0
Leaves old new place = (q : Lit) → Contains old q → (slice_get old place ≡ Some q) ⊎ Contains new q

-- where all other literals of the clause are false by the first k steps, and the next is a decision
pub record IsAsserting (steps : List Step) (clause : List Lit) (l : Lit) (k : ℕ) : Type 0 where
  pub place : k < length steps
  pub decision : (s : Step) → slice_get steps k ≡ Some s → s.implied ≡ false
  pub others : OthersFalse (take k steps) clause l
