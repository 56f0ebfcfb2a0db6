-- Which certificate the bytes of a file spell; or the line of the first word that breaks the form.
--
-- Where the end of the file breaks it, the line is the last one: the number of line feeds plus 1.

use Rattle.std.specs.Prelude.{◌≡◌, ⊤, ℕ, suc, List, [], ◌∷◌, Result, Ok, Err}
use Rattle.std.specs.Option.{option_map_or}
use Rattle.drat_text.specs.declared.fault.ReadError.{ReadError}
use Rattle.drat_text.specs.declared.fault.ReadError.TheVariants as error
use Rattle.drat_text.specs.Parts.{lines}
use Rattle.drat_text.specs.Certificate.{Contents}
use Rattle.drat_text.specs.Expecting.{Text, begun, with_line, finished}

pub data Spelled : Type 0 where
  Spells : Contents → Spelled
  Breaks : (line : ℕ) → Spelled

-- what a text of so many lines is
abbrev pub ended : ℕ → Text → Spelled
ended passed text = option_map_or Spells (finished text) (Breaks passed)

-- what these lines make of a text of which so many lines were read
abbrev pub with_lines : ℕ → Text → List (List ℕ) → Spelled
with_lines passed text [] = ended passed text
with_lines passed text (line ∷ rest) = option_map_or (λ next. with_lines (suc passed) next rest) (with_line text line) (Breaks (suc passed))

-- what the bytes of a file spell
unfoldable pub spelled : List ℕ → Spelled
spelled bytes = with_lines 0 begun (lines bytes)

-- what a reader answers: exactly what is spelled, or that memory was refused
abbrev pub Answers : Result Contents ReadError → Spelled → Type 0
Answers (Ok contents) s = s ≡ Spells contents
Answers (Err (error.Malformed line)) s = s ≡ Breaks line
Answers (Err error.Memory) s = ⊤
