-- Which formula the bytes of a file spell. A formula is written as in the text of a certificate, in DIMACS CNF: with the
-- line `c drat` behind it, it is such a text, of no step.

use Rattle.std.specs.Prelude.{◌≡◌, ◌<◌, ◌≤◌, ⊤, ℕ, List, ◌++◌, length, codes, Result, Ok, Err}
use Rattle.drat_text.specs.Certificate.{Contents, IsBelow}
use Rattle.drat_text.specs.Reading.{spelled, Spells, Breaks}
use Rattle.cnf_answers.specs.declared.formula.FormulaError.{FormulaError}
use Rattle.cnf_answers.specs.declared.formula.FormulaError.TheVariants as error

-- the greatest length of a formula's text
abbrev pub most_bytes : ℕ
most_bytes = 268435456

-- the bytes, and the line `c drat` behind them
abbrev pub with_divider : List ℕ → List ℕ
with_divider bytes = bytes ++ codes "\nc drat\n"

-- the bytes spell this formula
abbrev pub SpellFormula : List ℕ → Contents → Type 0
SpellFormula bytes formula = spelled (with_divider bytes) ≡ Spells formula

-- what a reader answers: the formula; that the bytes are too many; the line that breaks the form; or that memory was
-- refused
abbrev pub IsRead : List ℕ → Result Contents FormulaError → Type 0
IsRead bytes (Ok formula) = (length bytes ≤ most_bytes) × SpellFormula bytes formula × IsBelow formula
IsRead bytes (Err error.TooLong) = most_bytes < length bytes
IsRead bytes (Err (error.Malformed line)) = (length bytes ≤ most_bytes) × (spelled (with_divider bytes) ≡ Breaks line)
IsRead bytes (Err error.Memory) = ⊤
