-- What contracts see of the learning solver.

use Rattle.std.specs.Prelude.{ℕ, Bool, List}
use Rattle.sat_base.specs.declared.literal.Lit.{Lit}

pub record CdclState : Type 0 where
  pub vars : ℕ
  pub clauses : List (List Lit)
  -- the values that were found last
  pub found : List Bool
