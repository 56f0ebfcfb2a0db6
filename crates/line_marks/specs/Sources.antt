-- The line of the source that a line of a preprocessed file comes from.
use Rattle.std.specs.Prelude.{ℕ, ◌+◌, ◌-◌, nat_lt, Bool, Option, Some, None, List, length, filter, slice_get}
use Rattle.line_marks.specs.declared.marks.Mark.{Mark}

pub record Origin : Type 0 where
  pub name : List ℕ
  pub line : ℕ

-- the mark stands above the line
abbrev pub is_above : (line : ℕ) → Mark → Bool
is_above line m = nat_lt m.at line

abbrev pub last_of : List Mark → Option Mark
last_of ms = slice_get ms (length ms - 1)

-- the last mark above a line
unfoldable pub mark_above : (line : ℕ) → List Mark → Option Mark
mark_above line ms = last_of (filter (is_above line) ms)

-- the line behind a mark is the one that it names, and each line behind that is one more
abbrev pub origin_by : (own : List ℕ) → (line : ℕ) → Option Mark → Origin
origin_by own line None = record { name = own; line = line }
origin_by own line (Some m) = record { name = m.marker.name; line = m.marker.line + (line - (m.at + 1)) }

-- With no mark above it a line is its own source, in the file of its own name.
abbrev pub origin : List Mark → (own : List ℕ) → (line : ℕ) → Origin
origin ms own line = origin_by own line (mark_above line ms)

-- the file that was preprocessed: the name of the first mark
abbrev pub main_by : (own : List ℕ) → Option Mark → List ℕ
main_by own None = own
main_by own (Some m) = m.marker.name

abbrev pub main_name : List Mark → (own : List ℕ) → List ℕ
main_name ms own = main_by own (slice_get ms 0)
