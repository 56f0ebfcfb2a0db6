-- The markers of a file, each with the number of the line that it is. A line inside of a comment is none.
use Rattle.std.specs.Prelude.{ℕ, ◌+◌, Bool, true, false, ◌==◌, Option, Some, None, List, [], ◌∷◌, ◌++◌}
use Rattle.std.specs.List.{slice_split}
use Rattle.line_marks.specs.declared.markers.Marker.{Marker}
use Rattle.line_marks.specs.declared.marks.Mark.{Mark}
use Rattle.line_marks.specs.Comments.{comment_behind}
use Rattle.line_marks.specs.Markers.{marker}

abbrev pub is_feed : ℕ → Bool
is_feed c = c == 10

abbrev pub lines : List ℕ → List (List ℕ)
lines bytes = slice_split is_feed bytes

abbrev pub mark_at : (at : ℕ) → Option Marker → List Mark
mark_at at None = []
mark_at at (Some m) = record { at = at; marker = m } ∷ []

abbrev pub mark_if : (at : ℕ) → (commented : Bool) → List ℕ → List Mark
mark_if at true line = []
mark_if at false line = mark_at at (marker line)

-- the marks of lines, the first of which has that number, and begins inside of a comment or not
abbrev pub marks_in : (at : ℕ) → (commented : Bool) → List (List ℕ) → List Mark
marks_in at commented [] = []
marks_in at commented (line ∷ lines) = mark_if at commented line ++ marks_in (at + 1) (comment_behind commented line) lines

-- Lines count from 1.
unfoldable pub marks : List ℕ → List Mark
marks bytes = marks_in 1 false (lines bytes)
