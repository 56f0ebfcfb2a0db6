-- What unit propagation keeps, and what its answers say. A variable without a value is open.

use Rattle.std.specs.Prelude.{◌≡◌, ℕ, ◌<◌, ◌≤◌, Bool, true, false, List, Option, None, length}
use Rattle.sat_base.specs.declared.literal.Lit.{Lit}
use Rattle.sat_base.specs.declared.propagate.Look.{Look}
use Rattle.sat_base.specs.declared.propagate.Pass.{Pass}
use Rattle.sat_base.specs.declared.propagate.Propagated.{Propagated}
use Rattle.sat_base.specs.Logic.{at, lit_true, some_true, each_true, all_true}
use Rattle.sat_base.specs.Marks.{mark, Extends, open_count}

pub record IsOpen (marks : List (Option Bool)) (var : ℕ) : Type 0 where
  pub exists : var < length marks
  pub empty : mark marks var ≡ None

-- every assignment with these values satisfies the clause, or none does, or exactly those that
-- make the literal true
abbrev pub IsLook : List Lit → List (Option Bool) → Look → Type 0
IsLook clause marks Look.Satisfied = (f : ℕ → Bool) → Extends f marks → some_true f clause ≡ true
IsLook clause marks Look.Falsified = (f : ℕ → Bool) → Extends f marks → some_true f clause ≡ false
IsLook clause marks (Look.Unit l) =
    IsOpen marks l.var × ((f : ℕ → Bool) → Extends f marks → some_true f clause ≡ lit_true f l)
IsLook clause marks (Look.Open l) = IsOpen marks l.var

-- the new marks add values to the old, and only such as the clauses force
pub record Narrows (clauses : List (List Lit)) (old new : List (Option Bool)) : Type 0 where
  pub size : length new ≡ length old
  pub grown : (f : ℕ → Bool) → Extends f new → Extends f old
  pub forced : (f : ℕ → Bool) → all_true f clauses ≡ true → Extends f old → Extends f new
  pub fewer : open_count new ≤ open_count old

-- no assignment with these values satisfies the clauses
abbrev pub Refutes : List (List Lit) → List (Option Bool) → Type 0
Refutes clauses marks = (f : ℕ → Bool) → Extends f marks → all_true f clauses ≡ false

-- every assignment with these values satisfies the clauses
abbrev pub Satisfies : List (List Lit) → List (Option Bool) → Type 0
Satisfies clauses marks = (f : ℕ → Bool) → Extends f marks → all_true f clauses ≡ true

abbrev pub IsPass : List (List Lit) → List (Option Bool) → List (Option Bool) → Pass → Type 0
IsPass clauses old new Pass.Conflict = Refutes clauses old
IsPass clauses old new Pass.Satisfied = Narrows clauses old new × Satisfies clauses new
IsPass clauses old new Pass.Changed = Narrows clauses old new × (open_count new < open_count old)
IsPass clauses old new (Pass.Open var) = Narrows clauses old new × IsOpen new var

abbrev pub IsPropagated : List (List Lit) → List (Option Bool) → List (Option Bool) → Propagated → Type 0
IsPropagated clauses old new Propagated.Conflict = Refutes clauses old
IsPropagated clauses old new Propagated.Satisfied = Narrows clauses old new × Satisfies clauses new
IsPropagated clauses old new (Propagated.Open var) = Narrows clauses old new × IsOpen new var

-- values for all variables that satisfy the clauses, among them those that the marks give
pub record Completes (clauses : List (List Lit)) (marks : List (Option Bool)) (values : List Bool) : Type 0 where
  pub size : length values ≡ length marks
  pub agrees : Extends (at values) marks
  pub satisfied : all_true (at values) clauses ≡ true

-- the assumed literals have their values among the new marks, and an assignment that makes them
-- true keeps these; or they disagree with each other or with the old marks
abbrev pub IsAssumed : List Lit → List (Option Bool) → List (Option Bool) → Bool → Type 0
IsAssumed assumed old new true =
    (length new ≡ length old)
    × ((f : ℕ → Bool) → Extends f new → each_true f assumed ≡ true)
    × ((f : ℕ → Bool) → each_true f assumed ≡ true → Extends f old → Extends f new)
IsAssumed assumed old new false = (f : ℕ → Bool) → Extends f old → each_true f assumed ≡ false
