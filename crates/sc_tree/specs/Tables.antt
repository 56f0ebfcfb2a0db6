-- Tables of spellings: which row has a text as its spelling, and which row's spelling stands at the
-- front of some bytes. And steps of which one may give nothing.
use Rattle.std.specs.Prelude.{ℕ, Bool, List, [], ◌∷◌, length, take, Option, Some, None, bytes_eq, if◌then◌else◌}

-- a spelling with what it means, and a table of such rows
abbrev pub Row : Type 0 → Type 0
Row A = List ℕ × A

abbrev pub Table : Type 0 → Type 0
Table A = List (List ℕ × A)

-- whether the bytes begin with a text
abbrev pub begins : List ℕ → List ℕ → Bool
begins text bytes = bytes_eq text (take (length text) bytes)

-- what the first row of this spelling means
abbrev pub named : {A : Type 0} → List (List ℕ × A) → List ℕ → Option A
named [] text = None
named (row ∷ rows) text = if bytes_eq row.0 text then Some row.1 else named rows text

-- the first row whose spelling stands at the front
abbrev pub first_fit : {A : Type 0} → List (List ℕ × A) → List ℕ → Option (List ℕ × A)
first_fit [] bytes = None
first_fit (row ∷ rows) bytes = if begins row.0 bytes then Some row else first_fit rows bytes

infixl 10 ◌>>=◌
abbrev pub ◌>>=◌ : {A B : Type 0} → Option A → (A → Option B) → Option B
(Some x) >>= f = f x
None >>= f = None

-- the first of two that gives something
infixl 5 ◌|?◌
abbrev pub ◌|?◌ : {A : Type 0} → Option A → Option A → Option A
(Some x) |? other = Some x
None |? other = other
