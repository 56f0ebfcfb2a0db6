-- What a log of the learnt clauses shows: each of them follows by unit propagation from the clauses that
-- are there after the steps before it, so that after NoModel the log is a certificate.

use Rattle.std.specs.Prelude.{◌≡◌, ◌⊎◌, List, [], ◌∷◌, ◌++◌, Option, None, Some, IfSome, map}
use Rattle.std.specs.List.{Contains}
use Rattle.sat_base.specs.declared.literal.Lit.{Lit}
use Rattle.sat_base.specs.declared.certificate.Step.{Step}
use Rattle.sat_base.specs.declared.certificate.Step.TheVariants.{Add, Drop}
use Rattle.sat_base.specs.Logic.{negation}
use Rattle.sat_base.specs.Certificates.{Forced, Falsifies, IsRup, IsStep}

-- one clause of one literal for each of these literals
abbrev pub units : List Lit → List (List Lit)
units lits = map (λ l. l ∷ []) lits

-- what contracts see of the clauses that a solver holds: those given, and those learnt that are there
pub record HeldState : Type 0 where
  pub given : List (List Lit)
  pub learnt : List (List Lit)

-- the learnt clauses that are there
abbrev pub present : List (Option (List Lit)) → List (List Lit)
present [] = []
present (None ∷ rest) = present rest
present (Some c ∷ rest) = c ∷ present rest

-- the clause was given, or learnt and is there
abbrev pub IsKnown : HeldState → List Lit → Type 0
IsKnown s c = Contains (s.given ++ s.learnt) c

-- literals that force the negation of each literal of the clause falsify one of the clauses
abbrev pub Infers : List (List Lit) → List Lit → Type 0
Infers clauses c = (given : List Lit) → ((q : Lit) → Contains c q → Forced clauses given (negation q)) → Falsifies clauses given

-- the clauses that are held infer the clause
abbrev pub IsInferred : HeldState → List Lit → Type 0
IsInferred s c = Infers (s.given ++ s.learnt) c

-- the empty clause is RUP of them once there is a clause for each assumed literal
abbrev pub IsRefuted : HeldState → List Lit → Type 0
IsRefuted s assumed = IsRup ((s.given ++ units assumed) ++ s.learnt) []

-- the log after a clause was learnt
abbrev pub noted : Option (List Step) → List Lit → Option (List Step)
noted None c = None
noted (Some steps) c = Some (steps ++ Add c ∷ [])

-- the log after a clause was deleted
abbrev pub ended : Option (List Step) → List Lit → Option (List Step)
ended None c = None
ended (Some steps) c = Some (steps ++ Drop c ∷ [])

-- all of these steps are allowed, one after the other, and leave the clauses `now`
abbrev pub Leads : List (List Lit) → List Step → List (List Lit) → Type 0
Leads clauses [] now = now ≡ clauses
Leads clauses (s ∷ rest) now = (next : List (List Lit)) × IsStep clauses s next × Leads next rest now

-- one clause, equal to this one, is taken out of the clauses, and these are left
abbrev pub Loses : List Lit → List (List Lit) → List (List Lit) → Type 0
Loses c [] left = ⊥
Loses c (d ∷ rest) left = ((d ≡ c) × (left ≡ rest)) ⊎ ((less : List (List Lit)) × (left ≡ d ∷ less) × Loses c rest less)

-- each learnt clause that is there can be taken out of the clauses, one after the other, and all of the
-- others are left
abbrev pub Covers : List (List Lit) → List (Option (List Lit)) → List (List Lit) → Type 0
Covers others [] now = (c : List Lit) → Contains others c → Contains now c
Covers others (None ∷ learnt) now = Covers others learnt now
Covers others (Some c ∷ learnt) now = (left : List (List Lit)) × Loses c now left × Covers others learnt left

-- The steps are allowed after the given clauses and any more, and among the clauses after them are these
-- and each learnt one that is there.
abbrev pub Records : List (List Lit) → List (Option (List Lit)) → List Step → Type 0
Records given learnt steps =
    (more : List (List Lit)) → (now : List (List Lit)) × Leads (given ++ more) steps now × Covers (given ++ more) learnt now

-- the same, where a log is kept
abbrev pub IsRecorded : List (List Lit) → List (Option (List Lit)) → Option (List Step) → Type 0
IsRecorded given learnt log = IfSome log (Records given learnt)

-- the log is as before, or the deletion of the clause is noted
abbrev pub MayEnd : Option (List Step) → Option (List Step) → List Lit → Type 0
MayEnd old new c = (new ≡ old) ⊎ (new ≡ ended old c)
