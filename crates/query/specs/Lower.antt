-- The question whether some model has values before these: clauses over new variables, one more behind each value that is true.
-- Where such a variable is true, the bits so far are not after these values. The first is assumed, and the last is assumed false.

use Rattle.std.specs.Prelude.{◌≡◌, ℕ, suc, Bool, true, false, List, [], ◌∷◌, ◌++◌}
use Rattle.sat_base.specs.declared.literal.Lit.{Lit}
use Rattle.sat_base.specs.Logic.{negation, satisfied}
use Rattle.query.specs.Values.{values_of, is_before}

-- the variable, and its negation
abbrev pub on : ℕ → Lit
on x = record { var = x; neg = false }

abbrev pub off : ℕ → Lit
off x = record { var = x; neg = true }

-- the clause of a bit: where x is true the bit is false, or it may be true as its value is, and then the next variable is true
abbrev pub link : (x : ℕ) → Lit → Bool → List Lit
link x bit false = off x ∷ negation bit ∷ []
link x bit true = off x ∷ negation bit ∷ on (suc x) ∷ []

-- the variable behind a bit of this value
abbrev pub link_next : ℕ → Bool → ℕ
link_next x false = x
link_next x true = suc x

-- the clauses of all bits, from the variable x on
unfoldable pub links : ℕ → List Lit → List Bool → List (List Lit)
links x [] values = []
links x (bit ∷ bits) [] = []
links x (bit ∷ bits) (value ∷ values) = link x bit value ∷ links (link_next x value) bits values

-- the variable behind all bits
unfoldable pub links_end : ℕ → List Bool → ℕ
links_end x [] = x
links_end x (value ∷ values) = links_end (link_next x value) values

-- some of the clauses were added, from the front
pub record IsBegun (old new added : List (List Lit)) : Type 0 where
  pub done : List (List Lit)
  pub rest : List (List Lit)
  pub now : new ≡ old ++ done
  pub whole : added ≡ done ++ rest

-- a model in which the goals hold and the bits have values before these is also, but for new variables, one of the question
abbrev pub AsksLower : (old new : List (List Lit)) → (bits goals : List Lit) → List Bool → List Lit → Type 0
AsksLower old new bits goals values question =
    (f : ℕ → Bool) → satisfied f old goals ≡ true → is_before values (values_of f bits) ≡ false
    → (h : ℕ → Bool) × (satisfied h new question ≡ true)
