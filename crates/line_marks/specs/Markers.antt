-- A line marker of a preprocessed file: `#` as the first byte of a line, the number of a line, a name in quotes, flags.
-- The next line is the line of that number in the file of that name.
use Rattle.std.specs.Prelude.{ℕ, ◌+◌, ◌-◌, ◌*◌, nat_lt, ◌==◌, ◌&&◌, Option, Some, None, option_map, option_and_then, List, [], ◌∷◌, length, take, drop, if◌then◌else◌}
use Rattle.std.specs.List.{prefix_len}
use Rattle.std.specs.Char.{is_ascii_digit}
use Rattle.line_marks.specs.declared.markers.Marker.{Marker}
use Rattle.line_marks.specs.declared.names.Within.TheVariants as within
use Rattle.line_marks.specs.Comments.{is_blank}
use Rattle.line_marks.specs.Names.{name_from}

-- the number that decimal digits spell, behind a number
abbrev pub number_from : ℕ → List ℕ → ℕ
number_from n [] = n
number_from n (c ∷ cs) = number_from (10 * n + (c - 48)) cs

-- the number of a line: one digit or more, and less than 2^32
unfoldable pub line_number : List ℕ → Option ℕ
line_number digits =
    if nat_lt 0 (length digits) && nat_lt (number_from 0 digits) 4294967296 then Some (number_from 0 digits) else None

abbrev pub past_blanks : List ℕ → List ℕ
past_blanks bytes = drop (prefix_len is_blank bytes) bytes

abbrev pub digits_of : List ℕ → List ℕ
digits_of bytes = take (prefix_len is_ascii_digit bytes) bytes

abbrev pub past_digits : List ℕ → List ℕ
past_digits bytes = drop (prefix_len is_ascii_digit bytes) bytes

abbrev pub marker_of : ℕ → List ℕ → Marker
marker_of n name = record { line = n; name = name }

-- the name behind the number
unfoldable pub named : ℕ → List ℕ → Option Marker
named n [] = None
named n (c ∷ cs) = if c == 34 then option_map (marker_of n) (name_from within.Plain cs) else None

-- the number and the name
unfoldable pub numbered : List ℕ → Option Marker
numbered bytes = option_and_then (λ n. named n (past_blanks (past_digits bytes))) (line_number (digits_of bytes))

-- the marker that a line is
unfoldable pub marker : List ℕ → Option Marker
marker [] = None
marker (c ∷ cs) = if c == 35 then numbered (past_blanks cs) else None
