-- What one step of a certificate does, and what is said after the last.

use Rattle.std.specs.Prelude.{◌≡◌, Bool, true, false, List, [], ◌∷◌, ◌++◌, length, if◌then◌else◌}
use Rattle.sat_base.specs.declared.literal.Lit.{Lit}
use Rattle.sat_base.specs.declared.certificate.Step.{Step}
use Rattle.sat_base.specs.Certificates.{IsRup, TakesOut, IsStep}
use Rattle.rup_check.specs.declared.check.Checked.{Checked}
use Rattle.rup_check.specs.declared.check.Checked.TheVariants.{Yes, No}
use Rattle.rup_check.specs.Checked.{ends_empty}

-- a clause was added that is RUP, or it is not RUP
abbrev pub IsAdded : List (List Lit) → List Lit → List (List Lit) → Bool → Type 0
IsAdded clauses c next true = IsRup clauses c × (next ≡ clauses ++ c ∷ [])
IsAdded clauses c next false = IsRup clauses c → ⊥

-- a clause with these literals was taken out, or there is none
abbrev pub IsDropped : List (List Lit) → List Lit → List (List Lit) → Bool → Type 0
IsDropped clauses c next true = TakesOut clauses c next
IsDropped clauses c next false = (other : List (List Lit)) → TakesOut clauses c other → ⊥

-- an allowed step was done, or it is not allowed
abbrev pub IsTaken : List (List Lit) → Step → List (List Lit) → Bool → Type 0
IsTaken clauses s next true = IsStep clauses s next
IsTaken clauses s next false = (other : List (List Lit)) → IsStep clauses s other → ⊥

-- what is said where all steps are allowed
abbrev pub end_of : List Step → Checked
end_of steps = if ends_empty steps then Yes else No (length steps)
