-- The clauses of a solver as references into its region.

use Rattle.std.specs.Prelude.{◌≡◌, ℕ, Bool, true, List, [], ◌∷◌, Option, Some, IsSome, unwrap_or, slice_get}
use Rattle.sat_base.specs.declared.literal.Lit.{Lit}
use Rattle.sat_base.specs.Logic.{some_true, all_true}
use Rattle.sat_pool.specs.declared.pool.Ref.{Ref}
use Rattle.sat_pool.specs.Region.{Block, reads}

-- the clauses hold only where this clause does
abbrev pub Entails : List (List Lit) → List Lit → Type 0
Entails clauses c = (f : ℕ → Bool) → all_true f clauses ≡ true → some_true f c ≡ true

-- what the references read
abbrev pub clauses_of : List Block → List Ref → List (List Lit)
clauses_of bs [] = []
clauses_of bs (r ∷ rs) = unwrap_or (reads bs r.at) [] ∷ clauses_of bs rs

-- each of them is live
abbrev pub AllLive : List Block → List Ref → Type 0
AllLive bs [] = Unit {0}
AllLive bs (r ∷ rs) = IsSome (reads bs r.at) × AllLive bs rs

-- the given clauses are live, and each learnt one holds wherever they do
pub record IsHeld (bs : List Block) (given : List Ref) (learnt : List (Option (List Lit))) : Type 0 where
  pub given_live : AllLive bs given
  pub entailed : (f : ℕ → Bool) → all_true f (clauses_of bs given) ≡ true → (i : ℕ) (c : List Lit) → slice_get learnt i ≡ Some (Some c) → some_true f c ≡ true
