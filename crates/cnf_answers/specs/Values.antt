-- The lines of values, as solvers print them: each begins with `v`, the words behind it are literals, the last is `0`.
-- A line has at most 78 bytes where its words allow it.

use Rattle.std.specs.Prelude.{ℕ, ◌+◌, Bool, nat_le, List, [], ◌∷◌, ◌++◌, length, map, codes, if◌then◌else◌}
use Rattle.sat_base.specs.declared.literal.Lit.{Lit}
use Rattle.drat_text.specs.Writing.{lit_word}

-- whether a word and a space before it have room behind so many bytes of a line
abbrev pub fits : ℕ → ℕ → Bool
fits column size = nat_le (column + 1 + size) 78

-- what stands before a word of this length: a space, or the beginning of the next line
abbrev pub gap : ℕ → ℕ → List ℕ
gap column size = if fits column size then codes " " else codes "\nv "

-- how many bytes the line has up to the end of that word
abbrev pub column_after : ℕ → ℕ → ℕ
column_after column size = (if fits column size then column + 1 else 2) + size

-- these words behind so many bytes of a line
abbrev pub words_text : ℕ → List (List ℕ) → List ℕ
words_text column [] = codes "\n"
words_text column (word ∷ words) =
    gap column (length word) ++ (word ++ words_text (column_after column (length word)) words)

-- the lines of the literals
abbrev pub values_text : List Lit → List ℕ
values_text lits = codes "v" ++ words_text 1 (map lit_word lits ++ codes "0" ∷ [])
