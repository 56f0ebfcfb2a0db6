-- Literals, clauses and assignments. An assignment gives each variable a value. It satisfies a
-- list of clauses where it makes a literal of each clause true.

use Rattle.std.specs.Prelude.{◌≡◌, ℕ, ◌<◌, Bool, true, false, not, ◌&&◌, if◌then◌else◌, List, length, slice_index_or, All}
use Rattle.std.specs.List.{list_any, list_all}
use Rattle.sat_base.specs.declared.literal.Lit.{Lit}
use Rattle.sat_base.specs.declared.solver.Answer.{Answer}
use Rattle.sat_base.specs.declared.solver.Answer.TheVariants.{Model, NoModel}

-- the literal of the same variable with the other sign
abbrev pub negation : Lit → Lit
negation l = record { var = l.var; neg = not l.neg }

-- whether the assignment makes the literal true
unfoldable pub lit_true : (ℕ → Bool) → Lit → Bool
lit_true assignment l = if l.neg then not (assignment l.var) else assignment l.var

-- whether the assignment satisfies the clause: one of its literals is true
abbrev pub some_true : (ℕ → Bool) → List Lit → Bool
some_true assignment clause = list_any (lit_true assignment) clause

-- whether all these literals are true
abbrev pub each_true : (ℕ → Bool) → List Lit → Bool
each_true assignment lits = list_all (lit_true assignment) lits

-- whether the assignment satisfies each of the clauses
abbrev pub all_true : (ℕ → Bool) → List (List Lit) → Bool
all_true assignment clauses = list_all (some_true assignment) clauses

-- whether it satisfies the clauses and makes the assumed literals true
abbrev pub satisfied : (ℕ → Bool) → List (List Lit) → List Lit → Bool
satisfied assignment clauses assumed = all_true assignment clauses && each_true assignment assumed

-- the assignment with these values, in the order of the variables
unfoldable pub at : List Bool → ℕ → Bool
at values var = slice_index_or values var false

-- the variables of these literals are below n
abbrev pub LitsBelow : ℕ → List Lit → Type 0
LitsBelow n lits = All (λ l. l.var < n) lits

-- the variables of these clauses are below n
abbrev pub ClausesBelow : ℕ → List (List Lit) → Type 0
ClausesBelow n clauses = All (LitsBelow n) clauses

-- what an answer says: the values found satisfy clauses and assumptions, or no assignment does
abbrev pub Answers : Answer → ℕ → List (List Lit) → List Lit → List Bool → Type 0
Answers Model vars clauses assumed values =
    (length values ≡ vars) × (satisfied (at values) clauses assumed ≡ true)
Answers NoModel vars clauses assumed values =
    (assignment : ℕ → Bool) → satisfied assignment clauses assumed ≡ false

-- both assignments give the variables below n the same values
abbrev pub AgreeBelow : ℕ → (f h : ℕ → Bool) → Type 0
AgreeBelow n f h = (x : ℕ) → x < n → h x ≡ f x

-- clauses with which nothing is lost and nothing is won: whoever satisfies the new clauses satisfies the old ones, and whoever
-- satisfies the old ones satisfies the new ones by other values for variables from n on
pub record Extends (n : ℕ) (old new : List (List Lit)) : Type 0 where
  pub earlier : (f : ℕ → Bool) → all_true f new ≡ true → all_true f old ≡ true
  pub later : (f : ℕ → Bool) → all_true f old ≡ true → (h : ℕ → Bool) × AgreeBelow n f h × (all_true h new ≡ true)
