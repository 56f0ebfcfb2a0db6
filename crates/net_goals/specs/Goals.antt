-- Goals: clauses that ask whether some choice passes a test.
use Rattle.std.specs.Prelude.{◌≡◌, ℕ, ◌≤◌, Bool, true, List, [], ◌∷◌, ◌++◌, length, take}
use Rattle.sat_base.specs.declared.literal.Lit.{Lit}
use Rattle.sat_base.specs.Logic.{at, lit_true, all_true, ClausesBelow}

-- What clauses see of a goal: its first variables are the bits of the choice.
pub record Parts : Type 0 where
  pub inputs : ℕ
  pub vars : ℕ
  pub clauses : List (List Lit)

-- For each choice just one assignment goes on from it that satisfies all clauses but the last; and it satisfies the last, which is one literal,
-- exactly where the choice passes the test.
pub record IsGoal (test : List Bool → Bool) (g : Parts) : Type 0 where
  pub room : g.inputs ≤ g.vars
  pub below : ClausesBelow g.vars g.clauses
  pub front : List (List Lit)
  pub last : Lit
  pub split : g.clauses ≡ front ++ (last ∷ []) ∷ []
  -- the one assignment that goes on from a choice
  pub filled : List Bool → List Bool
  pub satisfies : (c : List Bool) → length c ≡ g.inputs → (length (filled c) ≡ g.vars) × ((take g.inputs (filled c) ≡ c) × (all_true (at (filled c)) front ≡ true))
  pub only : (c a : List Bool) → length c ≡ g.inputs → length a ≡ g.vars → take g.inputs a ≡ c → all_true (at a) front ≡ true → a ≡ filled c
  pub tells : (c : List Bool) → length c ≡ g.inputs → lit_true (at (filled c)) last ≡ test c
