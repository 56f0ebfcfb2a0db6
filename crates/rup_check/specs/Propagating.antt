-- What unit propagation keeps, and what its answers say, for clauses and literals that were marked.

use Rattle.std.specs.Prelude.{◌≡◌, ℕ, ◌<◌, ◌≤◌, Bool, true, false, List, Option, Some, slice_get}
use Rattle.std.specs.List.{Contains}
use Rattle.sat_base.specs.declared.literal.Lit.{Lit}
use Rattle.sat_base.specs.Certificates.{Forced, Falsifies}
use Rattle.rup_check.specs.declared.visit.Visited.{Visited}
use Rattle.rup_check.specs.declared.closing.Pass.{Pass}
use Rattle.rup_check.specs.Marking.{MarksState}
use Rattle.rup_check.specs.Looking.{IsClosed}
use Rattle.rup_check.specs.Stored.{present}

-- each marked literal is forced by the clauses and these given literals
abbrev pub IsSound : List (List Lit) → List Lit → List Lit → Type 0
IsSound clauses given lits = (l : Lit) → Contains lits l → Forced clauses given l

-- the clauses and the marked literals falsify a clause
abbrev pub IsConflict : List (List Lit) → List Lit → Type 0
IsConflict clauses lits = (given : List Lit) → IsSound clauses given lits → Falsifies clauses given

-- literals were marked, and only such as the clauses and those marked before force
pub record Extends (clauses : List (List Lit)) (old new : MarksState) : Type 0 where
  pub vars : new.vars ≡ old.vars
  pub kept : (l : Lit) → Contains old.lits l → Contains new.lits l
  pub sound : (given : List Lit) → IsSound clauses given old.lits → IsSound clauses given new.lits
  pub fewer : new.unmarked ≤ old.unmarked

-- no clause forces a further literal, and none is falsified
abbrev pub AllClosed : List (List Lit) → List Lit → Type 0
AllClosed clauses lits = (c : List Lit) → Contains clauses c → IsClosed lits c

-- the clause of this number says nothing further
abbrev pub IsStill : List (Option (List Lit)) → ℕ → MarksState → MarksState → Type 0
IsStill stored id old new = (new ≡ old) × ((c : List Lit) → slice_get stored id ≡ Some (Some c) → IsClosed old.lits c)

-- what a look at the clause of one number found
abbrev pub IsVisit : List (Option (List Lit)) → ℕ → MarksState → MarksState → Visited → Type 0
IsVisit stored id old new Visited.Gone = IsStill stored id old new
IsVisit stored id old new Visited.Falsified = IsConflict (present stored) new.lits
IsVisit stored id old new Visited.Forced = new.unmarked < old.unmarked
IsVisit stored id old new Visited.Settled = IsStill stored id old new
IsVisit stored id old new (Visited.Open l m) = IsStill stored id old new

-- what was found with one clause more
abbrev pub joined : Pass → Visited → Pass
joined found Visited.Gone = found
joined found Visited.Falsified = Pass.Conflict
joined found Visited.Forced = Pass.Changed
joined found Visited.Settled = found
joined found (Visited.Open l m) = found

-- what a pass over the clauses found
abbrev pub IsPass : List (List Lit) → MarksState → MarksState → Pass → Type 0
IsPass clauses old new Pass.Conflict = IsConflict clauses new.lits
IsPass clauses old new Pass.Changed = new.unmarked < old.unmarked
IsPass clauses old new Pass.Unchanged = AllClosed clauses new.lits

-- whether passes found a falsified clause; else no clause says anything further
abbrev pub IsClosing : List (List Lit) → List Lit → Bool → Type 0
IsClosing clauses lits true = IsConflict clauses lits
IsClosing clauses lits false = AllClosed clauses lits

-- whether propagation with watches found a falsified clause; a no says nothing
abbrev pub IsPropagated : List (List Lit) → List Lit → Bool → Type 0
IsPropagated clauses lits true = IsConflict clauses lits
IsPropagated clauses lits false = Unit {0}
