-- How the answer of the code says what is defined: the program, or why there is none. Of want of memory nothing is
-- said.
use Rattle.std.specs.Prelude.{◌≡◌, ℕ, List, Result, Ok, Err}
use Rattle.sc_base.specs.declared.skip.LimitKind.TheVariants as limit
use Rattle.sc_typed.specs.declared.program.Program.{Program}
use Rattle.sc_check.specs.declared.answer.CheckAnswer.{CheckAnswer}
use Rattle.sc_check.specs.declared.answer.CheckAnswer.TheVariants as answer
use Rattle.sc_check.specs.Typed.{Sources, Answer, Duplicate, TooMany, Typed, typed}

-- a second body hands the names back; the only limit is that of functions
abbrev pub Refuses : Answer → (names : List (List ℕ)) → CheckAnswer → Type 0
Refuses due names (answer.Duplicate back name) = (due ≡ Duplicate name.at) × (back ≡ names)
Refuses due names (answer.Limit kind count) = (due ≡ TooMany count) × (kind ≡ limit.Functions)
Refuses due names answer.OutOfMemory = Unit {0}

-- with the texts of the names that were given
abbrev pub Tells : Answer → (names : List (List ℕ)) → Result Program CheckAnswer → Type 0
Tells due names (Ok program) = due ≡ Typed program
Tells due names (Err e) = Refuses due names e

abbrev pub Answers : Sources → Result Program CheckAnswer → Type 0
Answers s = Tells (typed s) s.names
