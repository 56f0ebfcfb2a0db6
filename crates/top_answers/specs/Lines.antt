-- The lines that say why there is no text. Each begins with the name of its program.

use Rattle.std.specs.Prelude.{ℕ, List, ◌++◌, ◌||◌, nat_eq, nat_lt, if◌then◌else◌, map, codes, decimal}
use Rattle.sc_base.specs.declared.pos.Pos.{Pos}
use Rattle.sc_base.specs.declared.skip.LimitKind.{LimitKind}
use Rattle.sc_base.specs.declared.skip.LimitKind.TheVariants as limit

-- the line of the program of this name
abbrev pub line_of : (program tail : List ℕ) → List ℕ
line_of program tail = program ++ (codes ": " ++ (tail ++ codes "\n"))

-- ---- names

-- A byte of a name as a line has it: a question mark for a control character, so that a line stays one line whatever
-- stands in a name.
abbrev pub shown_byte : ℕ → ℕ
shown_byte c = if nat_lt c 32 || nat_eq c 127 then 63 else c

unfoldable pub shown_name : List ℕ → List ℕ
shown_name name = map shown_byte name

-- ---- what stands behind the program's name

-- a word on a place in the file of this name
abbrev pub at_place : (name : List ℕ) → Pos → (word : List ℕ) → List ℕ
at_place name pos word = shown_name name ++ (codes ":" ++ (decimal pos.line ++ (codes ":" ++ (decimal pos.col ++ (codes ": " ++ word)))))

abbrev pub limit_word : LimitKind → List ℕ
limit_word limit.Files = codes "files"
limit_word limit.Input = codes "input"
limit_word limit.Functions = codes "functions"
limit_word limit.Edges = codes "edges"
limit_word limit.Params = codes "params"
limit_word limit.Nodes = codes "nodes"
limit_word limit.Locations = codes "locations"

-- a limit, and the count that passes it
abbrev pub limit_tail : LimitKind → ℕ → List ℕ
limit_tail kind count = codes "limit " ++ (limit_word kind ++ (codes " " ++ decimal count))

abbrev pub unread_tail : (name : List ℕ) → List ℕ
unread_tail name = codes "cannot read " ++ shown_name name

abbrev pub machine_tail : (line : ℕ) → List ℕ
machine_tail line = codes "machine " ++ decimal line

abbrev pub twice_tail : (function : List ℕ) → List ℕ
twice_tail function = codes "duplicate " ++ shown_name function
