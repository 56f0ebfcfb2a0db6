-- Which answer `saturn_bench` owes: help or bad words, where the words ask for that or have a fault; else the seven lines
-- of counts of the generated program; else the line that says why there is no such program.

use Rattle.std.specs.Prelude.{◌≡◌, ℕ, Bool, true, false, List, [], Option, Some, None, codes}
use Rattle.clap.specs.Words.{App, Row}
use Rattle.saturn_words.specs.declared.asked.BenchWords.{BenchWords}
use Rattle.saturn_words.specs.Commands.{IsBench}
use Rattle.saturn_words.specs.declared.words.NoWords.{NoWords}
use Rattle.saturn_words.specs.Words.{faults, AskForNothing, CallForHelp, HaveFault, Give, HaveBench}
use Rattle.top_answers.specs.declared.status.Status.{Status}
use Rattle.top_answers.specs.declared.status.Status.TheVariants.{Clean, Reports, Refused, BadWords, ReadFault, WriteFault, Memory, Helped}
use Rattle.top_answers.specs.Answer.{Due, ToOutput, ToErrors}
use Rattle.top_answers.specs.Promises.{Wording}
use Rattle.top_answers.specs.Lines.{limit_tail, twice_tail}
use Rattle.top_answers.specs.Refusals.{due_of_refusal, refused_with}
use Rattle.bench_checks.specs.declared.program.NoProgram.{NoProgram}
use Rattle.bench_checks.specs.declared.program.NoProgram.TheVariants as no
use Rattle.bench_checks.specs.Bench.{AreLines, HasNoProgram}

-- ---- the generated program

-- the name with which lines begin
abbrev pub bench_name : List ℕ
bench_name = codes "saturn_bench"

-- What is due where there is no program. Of memory that was refused no line is due.
abbrev pub due_of : NoProgram → Option Due
due_of (no.Refused why) = due_of_refusal bench_name why
due_of (no.Twice name) = Some (refused_with bench_name (twice_tail name.items))
due_of (no.Beyond kind count) = Some (refused_with bench_name (limit_tail kind count))
due_of no.OutOfMemory = None

-- What is due for a number of functions and a seed: the lines, or the reason why there are none.
pub data IsFound (count seed : ℕ) : Due → Type 0 where
  counted : (lines : List ℕ) → AreLines count seed lines → IsFound count seed (ToOutput Clean lines)
  refused : (why : NoProgram) (due : Due) → HasNoProgram count seed why → due_of why ≡ Some due → IsFound count seed due

-- ---- the words

-- what the words ask for
abbrev pub Ask : (words : List (List ℕ)) → BenchWords → Type 0
Ask words asked = (command : App) × IsBench command × (rows : List Row) × Give command words rows × HaveBench rows asked

-- the words call for help, or for the version
abbrev pub AskForHelp : (words : List (List ℕ)) → Type 0
AskForHelp words = (command : App) × IsBench command × CallForHelp command words

-- the words have a fault other than these calls
abbrev pub AreBad : (words : List (List ℕ)) → Type 0
AreBad words = (command : App) × IsBench command × HaveFault command words

-- the words have no fault
abbrev pub AreGood : (words : List (List ℕ)) → Type 0
AreGood words = (command : App) → IsBench command → faults command words ≡ []

-- why the words ask for nothing
abbrev pub AskNothing : (words : List (List ℕ)) → NoWords → Type 0
AskNothing words why = (command : App) × IsBench command × AskForNothing command words why

-- What is due for these words. Of the texts of help and of bad words, which `clap` makes, nothing is said.
pub data IsDue (words : List (List ℕ)) : Due → Type 0 where
  helped : (bytes : List ℕ) → AskForHelp words → IsDue words (ToOutput Helped bytes)
  bad_words : (bytes : List ℕ) → AreBad words → IsDue words (ToErrors BadWords bytes)
  found : (asked : BenchWords) (due : Due) → Ask words asked → IsFound asked.functions asked.seed due → IsDue words due

-- what the words are; they name no file
abbrev pub wording : (words : List (List ℕ)) → Wording
wording words =
    record { AskForHelp = AskForHelp words; AreBad = AreBad words; AreGood = AreGood words; NamesFile = λ name. ⊥ }

-- ---- answers

-- the answers that come: with reports too the answer is that of a text without them, and no file is read
abbrev pub may_answer : Status → Bool
may_answer Reports = false
may_answer ReadFault = false
may_answer Clean = true
may_answer Refused = true
may_answer BadWords = true
may_answer WriteFault = true
may_answer Memory = true
may_answer Helped = true
