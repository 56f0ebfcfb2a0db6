-- Models of a formula as literals, of which there is one for each variable.

use Rattle.std.specs.Prelude.{◌≡◌, ℕ, suc, Bool, true, false, not, List, [], ◌∷◌, length}
use Rattle.sat_base.specs.declared.literal.Lit.{Lit}
use Rattle.sat_base.specs.Logic.{at, all_true}

-- the true literals of the variables from k on, which have these values
abbrev pub true_lits : ℕ → List Bool → List Lit
true_lits k [] = []
true_lits k (value ∷ values) = record { var = k; neg = not value } ∷ true_lits (suc k) values

-- these are the true literals of some values, one of each variable, and each clause has one of them
pub record IsModel (vars : ℕ) (clauses : List (List Lit)) (lits : List Lit) : Type 0 where
  pub values : List Bool
  pub size : length values ≡ vars
  pub are_true : lits ≡ true_lits 0 values
  pub satisfied : all_true (at values) clauses ≡ true

-- no assignment satisfies the clauses
abbrev pub HasNoModel : List (List Lit) → Type 0
HasNoModel clauses = (f : ℕ → Bool) → all_true f clauses ≡ false
