-- The trail as the list of its steps, from the first on. A step makes a literal true, by a decision
-- or because it is implied by what stands before it.

use Rattle.std.specs.Prelude.{◌≡◌, ℕ, ◌≤◌, Bool, true, false, List, [], ◌∷◌, ◌++◌, take}
use Rattle.sat_base.specs.declared.literal.Lit.{Lit}
use Rattle.sat_base.specs.Logic.{lit_true, all_true}
use Rattle.sat_trail.specs.declared.trail.Step.{Step}
use Rattle.sat_trail.specs.declared.trail.Put.{Put}
use Rattle.sat_trail.specs.declared.trail.Put.TheVariants.{Done, Taken, Absent}

-- how many variables there are, and the steps
pub record TrailState : Type 0 where
  pub vars : ℕ
  pub steps : List Step

-- the assignment makes the literal of each step true
abbrev pub AllTrue : (ℕ → Bool) → List Step → Type 0
AllTrue f [] = Unit {0}
AllTrue f (s ∷ rest) = (lit_true f s.lit ≡ true) × AllTrue f rest

-- none of the steps is a decision
abbrev pub AllImplied : List Step → Type 0
AllImplied [] = Unit {0}
AllImplied (s ∷ rest) = (s.implied ≡ true) × AllImplied rest

-- it makes the literal of each implied step true whose earlier literals are all true
abbrev pub Follows : (ℕ → Bool) → List Step → Type 0
Follows f [] = Unit {0}
Follows f (s ∷ rest) =
    (s.implied ≡ true → lit_true f s.lit ≡ true) × (lit_true f s.lit ≡ true → Follows f rest)

-- the steps give the literal this value
abbrev pub Tells : List Step → Lit → Bool → Type 0
Tells steps l value = (f : ℕ → Bool) → AllTrue f steps → lit_true f l ≡ value

-- the clauses and the steps hold only where the literal does
abbrev pub Implies : List (List Lit) → List Step → Lit → Type 0
Implies clauses steps l =
    (f : ℕ → Bool) → all_true f clauses ≡ true → AllTrue f steps → lit_true f l ≡ true

-- the clauses and the steps do not hold together
abbrev pub Refutes : List (List Lit) → List Step → Type 0
Refutes clauses steps = (f : ℕ → Bool) → all_true f clauses ≡ true → AllTrue f steps → ⊥

-- a step put behind the first k steps, or why it was not: its variable has a value there, or is none
abbrev pub IsPut : TrailState → TrailState → ℕ → Step → Put → Type 0
IsPut old new k s Done = new.steps ≡ take k old.steps ++ s ∷ []
IsPut old new k s (Taken value) =
    (new ≡ old) × Tells (take k old.steps) (record { var = s.lit.var; neg = false }) value
IsPut old new k s Absent = (new ≡ old) × (old.vars ≤ s.lit.var)
