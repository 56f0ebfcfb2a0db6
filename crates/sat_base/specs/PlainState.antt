-- What contracts see of the splitting solver.

use Rattle.std.specs.Prelude.{ℕ, Bool, List}
use Rattle.sat_base.specs.declared.literal.Lit.{Lit}

pub record PlainState : Type 0 where
  pub vars : ℕ
  pub clauses : List (List Lit)
  -- the values that were found last
  pub found : List Bool
