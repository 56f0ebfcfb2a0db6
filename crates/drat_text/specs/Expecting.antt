-- What was read of a text, what its next word has to be, and what a word, a line and the line `c drat` change.
--
--   p cnf V C       the number of variables and that of clauses
--   1 -2 0 ..       C clauses, each of literals and `0`
--   c drat          alone on its line; the line begins with `c`
--   d 1 -2 0 ..     steps: a clause to add, or `d` and a clause to take out
--
-- Words may stand in one line or in several. Each other line that begins with `c` is a comment.

use Rattle.std.specs.Prelude.{ℕ, ◌-◌, ◌==◌, ◌&&◌, Bool, true, false, List, [], ◌∷◌, ◌++◌, Option, None, Some}
use Rattle.std.specs.Prelude.{option_map, option_and_then}
use Rattle.std.specs.Prelude.{if◌then◌else◌, bytes_eq, codes, Result, Ok, Err, ◌≡◌, ⊤}
use Rattle.sat_base.specs.declared.literal.Lit.{Lit}
use Rattle.sat_base.specs.declared.certificate.Step.{Step}
use Rattle.sat_base.specs.declared.certificate.Step.TheVariants.{Add, Drop}
use Rattle.drat_text.specs.declared.expecting.Expected.{Expected}
use Rattle.drat_text.specs.declared.expecting.Expected.TheVariants.{Problem, Format, VariableCount, ClauseCount}
use Rattle.drat_text.specs.declared.expecting.Expected.TheVariants.{Formula, Start, Added, Removed}
use Rattle.drat_text.specs.declared.fault.Stop.{Stop}
use Rattle.drat_text.specs.declared.fault.Stop.TheVariants as stop
use Rattle.drat_text.specs.Parts.{words}
use Rattle.drat_text.specs.Certificate.{Contents}
use Rattle.drat_text.specs.Numbers.{number, literal}

pub record Text : Type 0 where
  -- what the next word has to be
  pub expected : Expected
  -- the number of variables
  pub vars : ℕ
  -- how many clauses of the formula are still to be ended
  pub missing : ℕ
  -- the clauses of the formula, and the steps, that were ended
  pub clauses : List (List Lit)
  pub steps : List Step
  -- the literals of the clause or step that has no end yet
  pub lits : List Lit

-- nothing was read
abbrev pub begun : Text
begun = record { expected = Problem; vars = 0; missing = 0; clauses = []; steps = []; lits = [] }

-- ---- what a word changes; none where it breaks the form

-- a word that has to be this one, and what is expected behind it
abbrev pub key : List ℕ → Expected → Text → List ℕ → Option Text
key this next text word = if bytes_eq word this then Some (record text { expected = next }) else None

abbrev pub with_vars : Text → Option ℕ → Option Text
with_vars text n = option_map (λ vars. record text { expected = ClauseCount; vars = vars }) n

abbrev pub with_count : Text → Option ℕ → Option Text
with_count text n = option_map (λ count. record text { expected = Formula; missing = count }) n

abbrev pub with_literal : Expected → Text → Option Lit → Option Text
with_literal next text l = option_map (λ lit. record text { expected = next; lits = text.lits ++ lit ∷ [] }) l

-- a literal, or the `0` that ends the clause
abbrev pub lit_or_end : Expected → Text → Text → List ℕ → Option Text
lit_or_end next ended text word = if bytes_eq word (codes "0") then Some ended else with_literal next text (literal text.vars word)

abbrev pub with_clause : Text → Text
with_clause text = record text { missing = text.missing - 1; clauses = text.clauses ++ text.lits ∷ []; lits = [] }

abbrev pub with_step : Step → Text → Text
with_step step text = record text { expected = Start; steps = text.steps ++ step ∷ []; lits = [] }

-- a word of the formula: none may stand behind its last clause
unfoldable pub formula_word : Text → List ℕ → Option Text
formula_word text word = if text.missing == 0 then None else lit_or_end Formula (with_clause text) text word

unfoldable pub added_word : Text → List ℕ → Option Text
added_word text word = lit_or_end Added (with_step (Add text.lits) text) text word

unfoldable pub removed_word : Text → List ℕ → Option Text
removed_word text word = lit_or_end Removed (with_step (Drop text.lits) text) text word

unfoldable pub start_word : Text → List ℕ → Option Text
start_word text word = if bytes_eq word (codes "d") then Some (record text { expected = Removed }) else added_word text word

abbrev pub word_at : Expected → Text → List ℕ → Option Text
word_at Problem text word = key (codes "p") Format text word
word_at Format text word = key (codes "cnf") VariableCount text word
word_at VariableCount text word = with_vars text (number word)
word_at ClauseCount text word = with_count text (number word)
word_at Formula text word = formula_word text word
word_at Start text word = start_word text word
word_at Added text word = added_word text word
word_at Removed text word = removed_word text word

unfoldable pub with_word : Text → List ℕ → Option Text
with_word text word = word_at text.expected text word

abbrev pub with_words : Text → List (List ℕ) → Option Text
with_words text [] = Some text
with_words text (word ∷ rest) = option_and_then (λ next. with_words next rest) (with_word text word)

-- ---- what a line changes

abbrev pub begins_with_c : List ℕ → Bool
begins_with_c [] = false
begins_with_c (b ∷ bs) = b == 99

abbrev pub are_c_drat : List (List ℕ) → Bool
are_c_drat (one ∷ other ∷ []) = bytes_eq one (codes "c") && bytes_eq other (codes "drat")
are_c_drat _ = false

abbrev pub expects_formula : Expected → Bool
expects_formula Formula = true
expects_formula _ = false

-- the formula ends, and steps follow; none where no formula stands before, or clauses of it are missing
unfoldable pub divided : Text → Option Text
divided text = if expects_formula text.expected && text.missing == 0 then Some (record text { expected = Start }) else None

unfoldable pub with_line : Text → List ℕ → Option Text
with_line text line =
    if begins_with_c line then (if are_c_drat (words line) then divided text else Some text) else with_words text (words line)

-- ---- the end

-- a text may end where a step may begin
abbrev pub may_end : Expected → Bool
may_end Start = true
may_end _ = false

-- what was read, if the text may end here
abbrev pub finished : Text → Option Contents
finished text = if may_end text.expected then Some (record { vars = text.vars; clauses = text.clauses; steps = text.steps }) else None

-- ---- for the private steps of the reader

-- what a step answers, and leaves: the next text; that the form is broken, if there is none; or that memory was refused
abbrev pub Takes : {X : Type 0} → Result X Stop → Text → Option Text → Type 0
Takes (Ok x) new next = next ≡ Some new
Takes (Err stop.Form) new next = next ≡ None
Takes (Err stop.Memory) new next = ⊤
