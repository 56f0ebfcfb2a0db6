-- The answers of a search, and of its steps.

use Rattle.std.specs.Prelude.{◌≡◌, ℕ, ◌<◌, ◌≤◌, Bool, true, false, List, length}
use Rattle.sat_base.specs.declared.literal.Lit.{Lit}
use Rattle.sat_base.specs.Logic.{lit_true, each_true, satisfied, at}
use Rattle.sat_trail.specs.declared.trail.Step.{Step}
use Rattle.sat_trail.specs.declared.trail.Put.{Put}
use Rattle.sat_trail.specs.declared.trail.Put.TheVariants.{Done, Taken, Absent}
use Rattle.sat_cdcl.specs.declared.turn.Advance.{Advance}
use Rattle.sat_cdcl.specs.declared.turn.Advance.TheVariants.{Decided, Found, Clash}
use Rattle.sat_trail.specs.Steps.{TrailState, AllTrue, Follows}
use Rattle.sat_trail.specs.Weight.{trail_weight}
use Rattle.sat_trail.specs.Order.{differs}

-- no assignment satisfies the clauses and the assumed literals
abbrev pub HasNone : List (List Lit) → List Lit → Type 0
HasNone clauses assumed = (f : ℕ → Bool) → satisfied f clauses assumed ≡ false

pub record IsModel (vars : ℕ) (clauses : List (List Lit)) (assumed : List Lit) (values : List Bool) : Type 0 where
  pub size : length values ≡ vars
  pub holds : satisfied (at values) clauses assumed ≡ true

-- no assignment of these clauses and assumptions makes all steps true
abbrev pub Clashes : List (List Lit) → List Lit → List Step → Type 0
Clashes clauses assumed steps = (f : ℕ → Bool) → satisfied f clauses assumed ≡ true → AllTrue f steps → ⊥

-- each assignment of these clauses and assumptions has the implied literals
abbrev pub AllFollow : List (List Lit) → List Lit → List Step → Type 0
AllFollow clauses assumed steps = (f : ℕ → Bool) → satisfied f clauses assumed ≡ true → Follows f steps

-- the trail rose, and what follows still does
pub record Rises (clauses : List (List Lit)) (assumed : List Lit) (old new : TrailState) : Type 0 where
  pub vars : new.vars ≡ old.vars
  pub heavier : trail_weight old < trail_weight new
  pub follows : AllFollow clauses assumed old.steps → AllFollow clauses assumed new.steps

-- the trail did not fall, what follows still does, and it clashes
pub record IsClash (clauses : List (List Lit)) (assumed : List Lit) (old new : TrailState) : Type 0 where
  pub vars : new.vars ≡ old.vars
  pub heavier : trail_weight old ≤ trail_weight new
  pub follows : AllFollow clauses assumed old.steps → AllFollow clauses assumed new.steps
  pub clashes : Clashes clauses assumed new.steps

abbrev pub IsAdvance : List (List Lit) → List Lit → TrailState → TrailState → Advance → Type 0
IsAdvance clauses assumed old new Decided = Rises clauses assumed old new
IsAdvance clauses assumed old new (Found values) = IsModel old.vars clauses assumed values.items
IsAdvance clauses assumed old new (Clash conflict) = IsClash clauses assumed old new

-- the assumed literals are on the trail, or cannot be true together
abbrev pub IsAssumed : List Lit → TrailState → Bool → Type 0
IsAssumed assumed t true = (f : ℕ → Bool) → each_true f assumed ≡ true → AllTrue f t.steps
IsAssumed assumed t false = (f : ℕ → Bool) → each_true f assumed ≡ false

-- the same for one literal
abbrev pub IsAssumedOne : Lit → TrailState → TrailState → Bool → Type 0
IsAssumedOne l old new true = (f : ℕ → Bool) → lit_true f l ≡ true → AllTrue f old.steps → AllTrue f new.steps
IsAssumedOne l old new false = (f : ℕ → Bool) → AllTrue f old.steps → lit_true f l ≡ false

-- whether a literal of this sign may still be true
abbrev pub assumed_from : Put → Bool → Bool
assumed_from Done neg = true
assumed_from (Taken value) neg = differs value neg
assumed_from Absent neg = true
