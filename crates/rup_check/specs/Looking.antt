-- What a clause says under marked literals. A literal of it is open where its negation is not marked.

use Rattle.std.specs.Prelude.{◌≢◌, List}
use Rattle.std.specs.List.{Contains}
use Rattle.sat_base.specs.declared.literal.Lit.{Lit}
use Rattle.sat_base.specs.Logic.{negation}
use Rattle.rup_check.specs.declared.look.OpenLits.{OpenLits}
use Rattle.rup_check.specs.declared.look.OpenLits.TheVariants.{Nothing, One, Two}

-- each literal of the clause is falsified: its negation is marked
abbrev pub AllFalse : List Lit → List Lit → Type 0
AllFalse lits clause = (q : Lit) → Contains clause q → Contains lits (negation q)

-- each literal of the clause but this one is falsified
abbrev pub OthersFalse : List Lit → List Lit → Lit → Type 0
OthersFalse lits clause l = (q : Lit) → Contains clause q → q ≢ l → Contains lits (negation q)

abbrev pub IsOpen : List Lit → List Lit → Lit → Type 0
IsOpen lits clause l = Contains clause l × (Contains lits (negation l) → ⊥)

-- no literal of the clause is open; or exactly this one; or these two, and maybe more
abbrev pub AreOpen : List Lit → List Lit → OpenLits → Type 0
AreOpen lits clause Nothing = AllFalse lits clause
AreOpen lits clause (One l) = IsOpen lits clause l × OthersFalse lits clause l
AreOpen lits clause (Two l m) = IsOpen lits clause l × IsOpen lits clause m × (l ≢ m)

-- the clause forces nothing that is not marked, and is not falsified
pub record IsClosed (lits : List Lit) (clause : List Lit) : Type 0 where
  pub forces : (l : Lit) → Contains clause l → OthersFalse lits clause l → Contains lits l
  pub stands : AllFalse lits clause → ⊥
