-- A region as the list of its blocks. A reference is the number of places before a block: each
-- block takes one place for its header and one for each literal.

use Rattle.std.specs.Prelude.{◌≡◌, ℕ, zero, suc, ◌+◌, ◌-◌, ◌≤◌, Bool, true, if◌then◌else◌, List, [], ◌∷◌, length, Option, None, Some, nat_lt, slice_index}
use Rattle.sat_base.specs.declared.literal.Lit.{Lit}

-- a clause, and whether it was dropped
pub record Block : Type 0 where
  pub dead : Bool
  pub lits : List Lit

-- how many places the blocks take
abbrev pub size : List Block → ℕ
size [] = 0
size (b ∷ bs) = suc (length b.lits + size bs)

-- the clause of the live block that begins at this place
abbrev pub reads : List Block → ℕ → Option (List Lit)
reads [] r = None
reads (b ∷ bs) zero = if b.dead then None else Some b.lits
reads (b ∷ bs) (suc r) = if nat_lt r (length b.lits) then None else reads bs (r - length b.lits)

-- the blocks after the block that begins at this place was dropped
abbrev pub kill : List Block → ℕ → List Block
kill [] r = []
kill (b ∷ bs) zero = record b { dead = true } ∷ bs
kill (b ∷ bs) (suc r) = if nat_lt r (length b.lits) then b ∷ bs else b ∷ kill bs (r - length b.lits)

-- the live blocks alone, in their order
abbrev pub live : List Block → List Block
live [] = []
live (b ∷ bs) = if b.dead then live bs else b ∷ live bs

-- how many places a block takes after a compaction
abbrev pub width_kept : Block → ℕ
width_kept b = if b.dead then 0 else suc (length b.lits)

-- where the block of this place begins among the live ones alone
abbrev pub moved : List Block → ℕ → ℕ
moved [] r = 0
moved (b ∷ bs) zero = 0
moved (b ∷ bs) (suc r) = width_kept b + moved bs (r - length b.lits)

-- room and a table for the compaction of a region of this size
pub record MovesState : Type 0 where
  pub room : ℕ
  pub places : List ℕ

pub record IsReserved (moves : MovesState) (n : ℕ) : Type 0 where
  pub enough : n ≤ moves.room
  pub table : length moves.places ≡ n

-- the table gives each live clause its place among the live blocks
pub record IsTable (bs : List Block) (places : List ℕ) : Type 0 where
  pub place : (q : ℕ) (c : List Lit) → reads bs q ≡ Some c → slice_index places q ≡ moved bs q
