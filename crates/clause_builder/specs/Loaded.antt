-- What a solver knows once a net is loaded into it, the gates having the variables from base on.

use Rattle.std.specs.Prelude.{◌≡◌, ℕ, ◌+◌, ◌-◌, ◌<◌, nat_lt, Bool, true, if◌then◌else◌, List, length}
use Rattle.bit_net.specs.declared.nodes.Node.{Node}
use Rattle.bit_net.specs.Value.{value}
use Rattle.bit_net.specs.Circuit.{input_count}
use Rattle.sat_base.specs.declared.literal.Lit.{Lit}
use Rattle.sat_base.specs.Logic.{all_true}

-- the gates of the inputs, which begin at gate 2, have the values of the choice
abbrev pub Chooses : List Node → (choice v : ℕ → Bool) → Type 0
Chooses ns choice v = (k : ℕ) → k < input_count ns → v (2 + k) ≡ choice k

-- the assignment, but with these values for the variables from base on
abbrev pub extended : (ℕ → Bool) → ℕ → (ℕ → Bool) → ℕ → Bool
extended f base values x = if nat_lt x base then f x else values (x - base)

-- every choice has just one extension to the new variables that satisfies the clauses, and it is
-- the values of the gates
pub record IsLoaded (ns : List Node) (old new : List (List Lit)) (base : ℕ) : Type 0 where
  -- whoever satisfies the new clauses satisfies the old ones
  pub earlier : (f : ℕ → Bool) → all_true f new ≡ true → all_true f old ≡ true
  -- and gives each gate the value that it has for the choice
  pub values : (f choice : ℕ → Bool) → all_true f new ≡ true → Chooses ns choice (λ g. f (base + g))
      → (g : ℕ) → g < length ns → f (base + g) ≡ value choice ns g
  -- whoever satisfies the old ones and gives each gate that value satisfies the new ones
  pub satisfied : (f choice : ℕ → Bool) → all_true f old ≡ true
      → ((g : ℕ) → g < length ns → f (base + g) ≡ value choice ns g) → all_true f new ≡ true
  -- and each assignment that satisfies the old ones can be made so, for each choice
  pub extension : (f choice : ℕ → Bool) → all_true f old ≡ true → all_true (extended f base (value choice ns)) new ≡ true
