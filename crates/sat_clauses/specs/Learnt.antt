-- The clauses that were learnt, as references into a region. Each keeps its number until it is deleted;
-- then its number reads nothing, until another clause gets it.

use Rattle.std.specs.Prelude.{◌≡◌, ◌⊎◌, ℕ, List, [], ◌∷◌, Option, None, Some, IsSome, slice_get, slice_index}
use Rattle.sat_base.specs.declared.literal.Lit.{Lit}
use Rattle.sat_pool.specs.declared.pool.Ref.{Ref}
use Rattle.sat_pool.specs.Region.{Block, reads}

-- the clause of each number
abbrev pub entries : List Block → List (Option Ref) → List (Option (List Lit))
entries bs [] = []
entries bs (None ∷ rest) = None ∷ entries bs rest
entries bs (Some r ∷ rest) = reads bs r.at ∷ entries bs rest

-- each reference is live, and no two of them are the same
pub record IsTable (bs : List Block) (table : List (Option Ref)) : Type 0 where
  pub live : (i : ℕ) (r : Ref) → slice_get table i ≡ Some (Some r) → IsSome (reads bs r.at)
  pub apart : (i j : ℕ) (r s : Ref) → slice_get table i ≡ Some (Some r) → slice_get table j ≡ Some (Some s) → r.at ≡ s.at → i ≡ j

-- each clause that is there was there before
abbrev pub Thins : List (Option (List Lit)) → List (Option (List Lit)) → Type 0
Thins old new = (j : ℕ) (c : List Lit) → slice_get new j ≡ Some (Some c) → slice_get old j ≡ Some (Some c)

-- each clause that is there was there before under its number, or is the new one, under this number
abbrev pub AddsAt : List (Option (List Lit)) → List (Option (List Lit)) → List Lit → ℕ → Type 0
AddsAt old new c i =
    (j : ℕ) (d : List Lit) → slice_get new j ≡ Some (Some d) → ((j ≡ i) × (d ≡ c)) ⊎ (slice_get old j ≡ Some (Some d))

-- the same, under some number
abbrev pub Adds : List (Option (List Lit)) → List (Option (List Lit)) → List Lit → Type 0
Adds old new c = (i : ℕ) × AddsAt old new c i

-- the number has no clause
abbrev pub IsFree : List (Option (List Lit)) → ℕ → Type 0
IsFree learnt i = (c : List Lit) → slice_get learnt i ≡ Some (Some c) → ⊥

-- each reference that is there was there before
abbrev pub Names : List (Option Ref) → List (Option Ref) → Type 0
Names old new = (j : ℕ) (r : Ref) → slice_get new j ≡ Some (Some r) → slice_get old j ≡ Some (Some r)

-- a reference, if there is one, after the clauses moved to these places
abbrev pub moved_at : List ℕ → Option (Option Ref) → Option (Option Ref)
moved_at places None = None
moved_at places (Some None) = Some None
moved_at places (Some (Some r)) = Some (Some (record { at = slice_index places r.at }))
