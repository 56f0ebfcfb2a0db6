-- The trail as a number in base three, with as many digits as there are variables: 2 for an implied
-- step, 1 for a decision, 0 for no step. It rises with each step that is put, and where a decision
-- gives way to an implied step.

use Rattle.std.specs.Prelude.{ℕ, zero, suc, ◌+◌, ◌≡◌, ◌≤◌, Bool, true, if◌then◌else◌, List, [], ◌∷◌}
use Rattle.sat_base.specs.declared.literal.Lit.{Lit}
use Rattle.sat_base.specs.Logic.{all_true}
use Rattle.sat_trail.specs.declared.trail.Step.{Step}
use Rattle.sat_trail.specs.Steps.{TrailState, Follows}

-- how many numbers there are of so many digits
abbrev pub numbers : ℕ → ℕ
numbers zero = 1
numbers (suc n) = numbers n + (numbers n + numbers n)

abbrev pub weight : ℕ → List Step → ℕ
weight zero steps = 0
weight (suc n) [] = 0
weight (suc n) (s ∷ rest) = (if s.implied then numbers n + numbers n else numbers n) + weight n rest

abbrev pub trail_weight : TrailState → ℕ
trail_weight t = weight t.vars t.steps

-- what may happen to a trail under these clauses: it does not get lighter, and what follows still does
pub record Extends (clauses : List (List Lit)) (old new : TrailState) : Type 0 where
  pub vars : new.vars ≡ old.vars
  pub heavier : trail_weight old ≤ trail_weight new
  pub follows : (f : ℕ → Bool) → all_true f clauses ≡ true → Follows f old.steps → Follows f new.steps
