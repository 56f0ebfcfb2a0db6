-- The values that literals have in models. A list of values comes before another in lexicographic
-- order, false before true.

use Rattle.std.specs.Prelude.{◌≡◌, ◌↔◌, ℕ, ◌+◌, ◌*◌, Bool, true, false, if◌then◌else◌, List, [], ◌∷◌, map, Contains, Option, Some, None, Vec}
use Rattle.std.specs.declared.alloc.Global.{Global}
use Rattle.std.specs.List.Sorted.{IsStrictlyIncreasing}
use Rattle.sat_base.specs.declared.literal.Lit.{Lit}
use Rattle.sat_base.specs.Logic.{negation, lit_true, each_true, all_true, satisfied}

-- the values that an assignment gives to these literals
abbrev pub values_of : (ℕ → Bool) → List Lit → List Bool
values_of f bits = map (lit_true f) bits

-- whether the first list is the second or comes before it
abbrev pub is_before : List Bool → List Bool → Bool
is_before [] ys = true
is_before (x ∷ xs) [] = false
is_before (false ∷ xs) (false ∷ ys) = is_before xs ys
is_before (false ∷ xs) (true ∷ ys) = true
is_before (true ∷ xs) (false ∷ ys) = false
is_before (true ∷ xs) (true ∷ ys) = is_before xs ys

-- the literal that is true just where the bit has this value
abbrev pub fixed_to : Bool → Lit → Lit
fixed_to true bit = bit
fixed_to false bit = negation bit

-- some assignment satisfies the clauses and makes these literals true
abbrev pub CanHold : List (List Lit) → List Lit → Type 0
CanHold clauses lits = (f : ℕ → Bool) × (satisfied f clauses lits ≡ true)

-- some model in which the fixed literals hold gives the bits these values
pub record IsSeen (clauses : List (List Lit)) (fixed bits : List Lit) (values : List Bool) : Type 0 where
  pub model : ℕ → Bool
  pub holds : satisfied model clauses fixed ≡ true
  pub values_are : values_of model bits ≡ values

-- the values that some such model gives, or none where no model has the fixed literals
abbrev pub IsFound : List (List Lit) → (bits fixed : List Lit) → Option (Vec Bool Global) → Type 0
IsFound clauses bits fixed (Some values) = IsSeen clauses fixed bits values.items
IsFound clauses bits fixed None = (f : ℕ → Bool) → satisfied f clauses fixed ≡ false

-- the same of a part of the models
pub record IsPart (clauses : List (List Lit)) (bits fixed : List Lit) (model : Option (Vec Bool Global)) : Type 0 where
  pub found : IsFound clauses bits fixed model

-- a model in which the goals hold
pub record Hits (f : ℕ → Bool) (clauses : List (List Lit)) (goals : List Lit) : Type 0 where
  pub model : all_true f clauses ≡ true
  pub hit : each_true f goals ≡ true

-- no model makes the goals true
abbrev pub HasNone : List (List Lit) → List Lit → Type 0
HasNone clauses goals = (f : ℕ → Bool) → Hits f clauses goals → ⊥

-- some model in which the goals hold has these values, and no such model has values before them
pub record IsLeast (clauses : List (List Lit)) (bits goals : List Lit) (values : List Bool) : Type 0 where
  pub model : (f : ℕ → Bool) × Hits f clauses goals × (values_of f bits ≡ values)
  pub least : (f : ℕ → Bool) → Hits f clauses goals → is_before values (values_of f bits) ≡ true

-- the number whose bits are those of `high` and then these, the first bit highest
abbrev pub number_from : ℕ → List Bool → ℕ
number_from high [] = high
number_from high (b ∷ bs) = number_from (if b then 2 * high + 1 else 2 * high) bs

-- some model in which the fixed literals hold gives the bits these values, behind those of `high`
abbrev pub Occurs : List (List Lit) → List Lit → List Lit → ℕ → ℕ → Type 0
Occurs clauses bits fixed high v =
    (f : ℕ → Bool) × (satisfied f clauses fixed ≡ true) × (number_from high (values_of f bits) ≡ v)

-- just the values that occur, ascending, each once
pub record ListsValues (clauses : List (List Lit)) (bits fixed : List Lit) (high : ℕ) (values : List ℕ) : Type 0 where
  pub rising : IsStrictlyIncreasing values
  pub exact : (v : ℕ) → Contains values v ↔ Occurs clauses bits fixed high v
