-- What it means that clauses were added.

use Rattle.std.specs.Prelude.{◌≡◌, ℕ, ◌≤◌, Bool, ◌&&◌, List, ◌++◌, All}
use Rattle.sat_base.specs.declared.literal.Lit.{Lit}
use Rattle.sat_base.specs.Logic.{all_true}

-- an assignment satisfies the new clauses where it satisfies the old ones and passes the test
abbrev pub Adds : (old new : List (List Lit)) → ((ℕ → Bool) → Bool) → Type 0
Adds old new test = (f : ℕ → Bool) → all_true f new ≡ (all_true f old && test f)

-- the old clauses are all there, and those behind them speak of variables from base on alone
pub record AddsFresh (base : ℕ) (old new : List (List Lit)) : Type 0 where
  pub added : List (List Lit)
  pub split : new ≡ old ++ added
  pub fresh : All (λ clause. All (λ l. base ≤ l.var) clause) added
