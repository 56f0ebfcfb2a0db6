-- Clauses by number. A number is used once; the clause of a number is `None` after it was taken out.

use Rattle.std.specs.Prelude.{◌≡◌, ℕ, List, [], ◌∷◌, Option, None, Some, IsSome, slice_get}
use Rattle.sat_base.specs.declared.literal.Lit.{Lit}
use Rattle.sat_base.specs.Logic.{LitsBelow}
use Rattle.sat_base.specs.Certificates.{HasSameLits}
use Rattle.sat_pool.specs.declared.pool.Ref.{Ref}
use Rattle.sat_pool.specs.Region.{Block, reads}

-- the clause of each number
abbrev pub entries : List Block → List (Option Ref) → List (Option (List Lit))
entries bs [] = []
entries bs (None ∷ rest) = None ∷ entries bs rest
entries bs (Some r ∷ rest) = reads bs r.at ∷ entries bs rest

-- each reference is live
abbrev pub AllLive : List Block → List (Option Ref) → Type 0
AllLive bs table = (i : ℕ) (r : Ref) → slice_get table i ≡ Some (Some r) → IsSome (reads bs r.at)

-- the clauses that are there
abbrev pub present : List (Option (List Lit)) → List (List Lit)
present [] = []
present (None ∷ rest) = present rest
present (Some c ∷ rest) = c ∷ present rest

-- the variables of the clauses that are there are below n
abbrev pub StoredBelow : ℕ → List (Option (List Lit)) → Type 0
StoredBelow n stored = (i : ℕ) (c : List Lit) → slice_get stored i ≡ Some (Some c) → LitsBelow n c

-- the clause of this number is there, and has the same set of literals as this one
abbrev pub IsFound : List (Option (List Lit)) → List Lit → ℕ → Type 0
IsFound stored clause id = (c : List Lit) × (slice_get stored id ≡ Some (Some c)) × HasSameLits c clause

-- no clause that is there has the same set of literals
abbrev pub IsNowhere : List (Option (List Lit)) → List Lit → Type 0
IsNowhere stored clause = (id : ℕ) → IsFound stored clause id → ⊥
