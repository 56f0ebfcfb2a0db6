-- What the JSON of a choice reads.
use Rattle.std.specs.Prelude.{ℕ, ◌+◌, List, [], ◌∷◌}
use Rattle.line_marks.specs.declared.marks.Mark.{Mark}
use Rattle.sc_typed.specs.declared.program.Program.{Program}
use Rattle.sc_world.specs.Gather.{Site}
use Rattle.sc_world.specs.Source.{Source}
use Rattle.sc_world.specs.Paths.{Texts}

pub record Speaker : Type 0 where
  -- the program, and the line marks of its files
  pub program : Program
  pub marks : List (List Mark)
  -- the function with its kept callees, and the texts of its locations
  pub source : Source
  pub texts : Texts
  -- of each call of the text the number of its first occurrence
  pub firsts : List ℕ

-- The occurrences of a call follow one another, one for each turn: the numbers of the first ones, where so many
-- occurrences stand before.
abbrev pub firsts_of : (before : ℕ) → List Site → List ℕ
firsts_of before [] = []
firsts_of before (s ∷ ss) = before ∷ firsts_of (before + s.turns) ss

abbrev pub speaker : Program → List (List Mark) → Source → Texts → Speaker
speaker p marks s x = record { program = p; marks = marks; source = s; texts = x; firsts = firsts_of 0 x.layout.sites }
