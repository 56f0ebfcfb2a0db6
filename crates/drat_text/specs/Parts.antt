-- The lines of a text, and the words of a line.
--
-- A line feed ends a line, so there is one line more than there are line feeds: what stands behind the last
-- one, even nothing, is a line. The words of a line are what stands between its white space: spaces, tabs,
-- form feeds and carriage returns.

use Rattle.std.specs.Prelude.{ℕ, ◌==◌, Bool, true, false, List, [], ◌∷◌, Option, None, Some}
use Rattle.std.specs.Char.{is_ascii_whitespace}
use Rattle.std.specs.List.{slice_split, filter}
use Rattle.drat_text.specs.declared.parts.Separator.{Separator}
use Rattle.drat_text.specs.declared.parts.Separator.TheVariants.{LineFeed, WhiteSpace}

abbrev pub is_line_feed : ℕ → Bool
is_line_feed b = b == 10

abbrev pub lines : List ℕ → List (List ℕ)
lines bytes = slice_split is_line_feed bytes

abbrev pub has_bytes : List ℕ → Bool
has_bytes [] = false
has_bytes (b ∷ bs) = true

abbrev pub words : List ℕ → List (List ℕ)
words line = filter has_bytes (slice_split is_ascii_whitespace line)

-- ---- for the private steps of the reader

abbrev pub separates : Separator → ℕ → Bool
separates LineFeed = is_line_feed
separates WhiteSpace = is_ascii_whitespace

-- the parts of what is left; none where nothing is left, and one, without bytes, where no byte is
abbrev pub parts_left : Separator → Option (List ℕ) → List (List ℕ)
parts_left separator None = []
parts_left separator (Some rest) = slice_split (separates separator) rest
