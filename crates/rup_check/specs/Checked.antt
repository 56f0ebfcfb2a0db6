-- What the checker of a certificate answers: yes, or the first step that is not allowed.

use Rattle.std.specs.Prelude.{◌≡◌, ℕ, Bool, true, false, List, [], ◌∷◌, length, take, None, Some, slice_get, All}
use Rattle.sat_base.specs.declared.literal.Lit.{Lit}
use Rattle.sat_base.specs.declared.certificate.Step.{Step}
use Rattle.sat_base.specs.declared.certificate.Step.TheVariants.{Add, Drop}
use Rattle.sat_base.specs.Logic.{LitsBelow}
use Rattle.sat_base.specs.Certificates.{IsStep, IsCertificate}
use Rattle.rup_check.specs.declared.check.Checked.{Checked}
use Rattle.rup_check.specs.declared.check.Checked.TheVariants.{Yes, No}

-- the literals of the clause that a step adds or takes out
abbrev pub step_lits : Step → List Lit
step_lits (Add c) = c
step_lits (Drop c) = c

-- the variables of these steps are below n
abbrev pub StepsBelow : ℕ → List Step → Type 0
StepsBelow n steps = All (λ s. LitsBelow n (step_lits s)) steps

-- all of these steps are allowed, one after the other, and leave the clauses `now`
abbrev pub Reaches : List (List Lit) → List Step → List (List Lit) → Type 0
Reaches clauses [] now = now ≡ clauses
Reaches clauses (s ∷ rest) now = (next : List (List Lit)) × IsStep clauses s next × Reaches next rest now

-- whether a step adds the empty clause, and whether the last one does
abbrev pub adds_empty : Step → Bool
adds_empty (Add []) = true
adds_empty (Add (l ∷ ls)) = false
adds_empty (Drop c) = false

abbrev pub ends_empty : List Step → Bool
ends_empty [] = false
ends_empty (s ∷ []) = adds_empty s
ends_empty (s ∷ (t ∷ rest)) = ends_empty (t ∷ rest)

-- Step k, counted from 0, is the first that is not allowed; or all steps are allowed, the last does not
-- add the empty clause, and k is their number.
pub record IsRefusal (clauses : List (List Lit)) (steps : List Step) (k : ℕ) : Type 0 where
  pub now : List (List Lit)
  pub reached : Reaches clauses (take k steps) now
  pub refused : (s : Step) → slice_get steps k ≡ Some s → (next : List (List Lit)) → IsStep now s next → ⊥
  pub ended : slice_get steps k ≡ None → (k ≡ length steps) × (ends_empty steps ≡ false)

abbrev pub IsChecked : List (List Lit) → List Step → Checked → Type 0
IsChecked clauses steps Yes = IsCertificate clauses steps
IsChecked clauses steps (No k) = IsRefusal clauses steps k
