-- What a look at a clause says under a trail.

use Rattle.std.specs.Prelude.{◌≡◌, ℕ, Bool, true, false, List, Option, None, Some}
use Rattle.sat_base.specs.declared.literal.Lit.{Lit}
use Rattle.sat_base.specs.Logic.{lit_true, some_true}
use Rattle.sat_trail.specs.declared.trail.Step.{Step}
use Rattle.sat_trail.specs.declared.propagate.Look.{Look}
use Rattle.sat_trail.specs.declared.propagate.Look.TheVariants.{Keep, Move, Forced, Conflict, Gone}
use Rattle.sat_trail.specs.Steps.{AllTrue, Implies, Refutes}

-- where the steps hold, all literals but this one are false
abbrev pub OthersFalse : List Step → List Lit → Lit → Type 0
OthersFalse steps clause other =
    (f : ℕ → Bool) → AllTrue f steps → lit_true f other ≡ false → some_true f clause ≡ false

abbrev pub IsClauseLook : List Step → List Lit → Look → Type 0
IsClauseLook steps clause Keep = Unit {0}
IsClauseLook steps clause (Move q) = Unit {0}
IsClauseLook steps clause (Forced l) = OthersFalse steps clause l
IsClauseLook steps clause Gone = Unit {0}
IsClauseLook steps clause Conflict = (f : ℕ → Bool) → AllTrue f steps → some_true f clause ≡ false

abbrev pub IsLook : List (List Lit) → List Step → Look → Type 0
IsLook clauses steps Keep = Unit {0}
IsLook clauses steps (Move q) = Unit {0}
IsLook clauses steps (Forced l) = Implies clauses steps l
IsLook clauses steps Gone = Unit {0}
IsLook clauses steps Conflict = Refutes clauses steps

-- what a clause says, where this literal of it is open, if any, and where its other one may be false
abbrev pub look_from : Option Lit → Bool → Lit → Look
look_from (Some l) gone other = Move l
look_from None true other = Conflict
look_from None false other = Forced other
