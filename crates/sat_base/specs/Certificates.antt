-- Certificates that no assignment satisfies some clauses: the steps of a DRAT proof, as far as each
-- added clause follows by unit propagation alone.

use Rattle.std.specs.Prelude.{◌≡◌, List, [], ◌∷◌, ◌++◌, map}
use Rattle.std.specs.List.{Contains}
use Rattle.sat_base.specs.declared.literal.Lit.{Lit}
use Rattle.sat_base.specs.declared.certificate.Step.{Step}
use Rattle.sat_base.specs.declared.certificate.Step.TheVariants.{Add, Drop}
use Rattle.sat_base.specs.Logic.{negation}

-- a literal is forced by clauses and assumed literals: it is assumed, or a clause has it, and the
-- negation of each of its other literals is forced
pub data Forced (clauses : List (List Lit)) (given : List Lit) : Lit → Type 0 where
  by_assumption : (l : Lit) → Contains given l → Forced clauses given l
  by_clause : (c : List Lit) (l : Lit) → Contains clauses c → Contains c l
      → ((q : Lit) → Contains c q → (q ≡ l → ⊥) → Forced clauses given (negation q)) → Forced clauses given l

-- the negation of every literal of some clause is forced
pub record Falsifies (clauses : List (List Lit)) (given : List Lit) : Type 0 where
  pub clause : List Lit
  pub one : Contains clauses clause
  pub forced : (q : Lit) → Contains clause q → Forced clauses given (negation q)

-- a RUP clause: the negations of its literals falsify a clause
abbrev pub IsRup : List (List Lit) → List Lit → Type 0
IsRup clauses c = Falsifies clauses (map negation c)

pub record HasSameLits (c d : List Lit) : Type 0 where
  pub forth : (l : Lit) → Contains c l → Contains d l
  pub back : (l : Lit) → Contains d l → Contains c l

-- one clause with the literals of this one is taken out
pub record TakesOut (clauses : List (List Lit)) (c : List Lit) (next : List (List Lit)) : Type 0 where
  pub before : List (List Lit)
  pub after : List (List Lit)
  pub out : List Lit
  pub whole : clauses ≡ before ++ out ∷ after
  pub same : HasSameLits out c
  pub rest : next ≡ before ++ after

-- the step is allowed, and these are the clauses after it
abbrev pub IsStep : List (List Lit) → Step → List (List Lit) → Type 0
IsStep clauses (Add c) next = IsRup clauses c × (next ≡ clauses ++ c ∷ [])
IsStep clauses (Drop c) next = TakesOut clauses c next

-- each step is allowed after those before it, and the last adds the empty clause
abbrev pub IsCertificate : List (List Lit) → List Step → Type 0
IsCertificate clauses [] = ⊥
IsCertificate clauses (Add [] ∷ []) = IsRup clauses []
IsCertificate clauses (s ∷ rest) = (next : List (List Lit)) × IsStep clauses s next × IsCertificate next rest
