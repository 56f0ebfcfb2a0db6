-- How blocks lie in one list of literals: a header, which is a literal whose variable is the length
-- and whose sign says whether the block is dropped, and then the literals of the clause.

use Rattle.std.specs.Prelude.{ℕ, zero, suc, ◌+◌, ◌<◌, ◌≤◌, false, List, [], ◌∷◌, ◌++◌, length, take, drop, if◌then◌else◌, slice_index_or, slice_range, slice_set}
use Rattle.sat_base.specs.declared.literal.Lit.{Lit}
use Rattle.sat_pool.specs.Region.{Block}

abbrev pub header : Block → Lit
header b = record { var = length b.lits; neg = b.dead }

-- the list in which these blocks lie
abbrev pub flat : List Block → List Lit
flat [] = []
flat (b ∷ bs) = header b ∷ (b.lits ++ flat bs)

-- the blocks of a list; its length is enough for the first number
abbrev pub blocks_in : ℕ → List Lit → List Block
blocks_in zero list = []
blocks_in (suc n) [] = []
blocks_in (suc n) (h ∷ rest) =
    record { dead = h.neg; lits = take h.var rest } ∷ blocks_in n (drop h.var rest)

abbrev pub blocks : List Lit → List Block
blocks list = blocks_in (length list) list

-- what stands at a place
abbrev pub cell : List Lit → ℕ → Lit
cell list at = slice_index_or list at (record { var = 0; neg = false })

-- a whole block begins at this place
pub record HasBlock (list : List Lit) (at : ℕ) : Type 0 where
  pub begins : at < length list
  pub ends : at + 1 + (cell list at).var ≤ length list

-- the literals of the block that begins at this place
abbrev pub lits_at : List Lit → ℕ → List Lit
lits_at list at = take (cell list at).var (drop (at + 1) list)

-- the whole block that begins at this place, if it is live, and where the next one begins
abbrev pub end_of : List Lit → ℕ → ℕ
end_of list at = at + 1 + (cell list at).var

abbrev pub live_part : List Lit → ℕ → List Lit
live_part list at = if (cell list at).neg then [] else slice_range list at (end_of list at)

-- the table of places after the block of this place went to the end of the copy
abbrev pub noted : List Lit → ℕ → List ℕ → ℕ → List ℕ
noted list at places to = if (cell list at).neg then places else slice_set places at to
