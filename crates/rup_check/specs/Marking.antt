-- A set of marked literals.

use Rattle.std.specs.Prelude.{◌≡◌, ℕ, ◌+◌, ◌*◌, ◌<◌, ◌≤◌, ◌⊎◌, Bool, true, false, if◌then◌else◌, List, length, slice_index_or}
use Rattle.std.specs.List.{Contains}
use Rattle.sat_base.specs.declared.literal.Lit.{Lit}

-- the place of a literal among all literals: 2 v for the variable v, and 2 v + 1 for its negation
abbrev pub place : Lit → ℕ
place l = 2 * l.var + (if l.neg then 1 else 0)

-- what contracts see: the number of variables, the literals in the order in which they were marked, and
-- how many literals are not marked
pub record MarksState : Type 0 where
  pub vars : ℕ
  pub lits : List Lit
  pub unmarked : ℕ

unfoldable pub bit : List Bool → Lit → Bool
bit bits l = slice_index_or bits (place l) false

-- a bit for each literal, which is set exactly for those marked
pub record IsMarks (vars : ℕ) (bits : List Bool) (lits : List Lit) : Type 0 where
  pub size : length bits ≡ 2 * vars
  pub below : (l : Lit) → Contains lits l → l.var < vars
  pub marked : (l : Lit) → Contains lits l → bit bits l ≡ true
  pub only : (l : Lit) → bit bits l ≡ true → Contains lits l

-- this literal was marked, if it was not yet
pub record IsMarked (old new : MarksState) (l : Lit) : Type 0 where
  pub vars : new.vars ≡ old.vars
  pub kept : (q : Lit) → Contains old.lits q → Contains new.lits q
  pub here : Contains new.lits l
  pub only : (q : Lit) → Contains new.lits q → Contains old.lits q ⊎ (q ≡ l)
  pub fewer : new.unmarked ≤ old.unmarked
  pub strict : (Contains old.lits l → ⊥) → new.unmarked < old.unmarked
