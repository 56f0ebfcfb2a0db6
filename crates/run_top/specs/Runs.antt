-- Which answer `saturn_run` owes: help or bad words, where the words ask for that or have a fault; else the first refusal
-- of the files that they name; else the run as text or as JSON, or the line that says why there is none.

use Rattle.std.specs.Prelude.{◌≡◌, ◌⊎◌, ℕ, true, List, [], Option, Some, map, option_map, codes}
use Rattle.clap.specs.Words.{App, Row}
use Rattle.sc_base.specs.Held.{is_named}
use Rattle.sc_input.specs.declared.input.Input.{Input}
use Rattle.sc_input.specs.declared.refusal.Refusal.{Refusal}
use Rattle.sc_input.specs.Input.{Outside, IsInput, Refuse}
use Rattle.line_marks.specs.declared.marks.Mark.{Mark}
use Rattle.saturn_words.specs.declared.asked.Format.{Format}
use Rattle.saturn_words.specs.declared.asked.Format.TheVariants as form
use Rattle.saturn_words.specs.declared.asked.Options.{Options}
use Rattle.saturn_words.specs.declared.asked.RunWords.{RunWords}
use Rattle.saturn_words.specs.Commands.{IsRun}
use Rattle.saturn_words.specs.declared.words.NoWords.{NoWords}
use Rattle.saturn_words.specs.Words.{AskForNothing, CallForHelp, HaveFault, Give, HaveRun, faults}
use Rattle.whole_replays.specs.Forms.{Form, AsText, AsJson}
use Rattle.whole_replays.specs.Typed.{Sources}
use Rattle.whole_replays.specs.Told.{Told, Run, Twice, Beyond, NoFunction, Skipped, BadChoice, told}
use Rattle.top_answers.specs.declared.status.Status.TheVariants.{Clean, BadWords, Helped}
use Rattle.top_answers.specs.Answer.{Due, ToOutput, ToErrors}
use Rattle.top_answers.specs.Lines.{limit_tail, twice_tail}
use Rattle.top_answers.specs.Promises.{Wording}
use Rattle.top_answers.specs.Refusals.{due_of_refusal, refused_with}
use Rattle.run_top.specs.Lines.{no_function_tail, skipped_tail, bad_choice_tail}

-- ---- the run

-- What is due for what is told of the function of this name. A run is Clean however it ends.
abbrev pub due_of_told : (program name : List ℕ) → Told → Due
due_of_told program name (Run bytes) = ToOutput Clean bytes
due_of_told program name (Twice twice) = refused_with program (twice_tail twice)
due_of_told program name (Beyond kind count) = refused_with program (limit_tail kind count)
due_of_told program name NoFunction = refused_with program (no_function_tail name)
due_of_told program name Skipped = refused_with program (skipped_tail name)
due_of_told program name BadChoice = refused_with program bad_choice_tail

-- the trees of the files, with the widths that the words name
abbrev pub sources_of : Options → Input → Sources
sources_of options input =
    record { names = input.names; files = input.files; units = input.units; widths = options.widths; machine = input.machine }

-- the file of the machine of states, if the words name one, and the files
abbrev pub machine_of : Options → Option (List ℕ)
machine_of options = option_map (λ name. name.now) options.machine

abbrev pub files_of : Options → List (List ℕ)
files_of options = map (λ name. name.now) options.files.items

-- the form that the words name, with the line markers of the files
abbrev pub form_as : Format → (marks : List (List Mark)) → Form
form_as form.Text marks = AsText
form_as form.Json marks = AsJson marks

-- what is told of the input
abbrev pub told_of : RunWords → Input → Told
told_of asked input =
    told (form_as asked.format input.marks) (sources_of asked.options input) asked.options.depth asked.options.reach asked.function.now asked.choice.now

-- What is due for what the words ask for and the files outside: the first refusal, or what is told of the input.
pub data IsFound (asked : RunWords) (outside : Outside) : Due → Type 0 where
  refused : (why : Refusal) (due : Due) → Refuse outside (machine_of asked.options) (files_of asked.options) why
      → due_of_refusal (codes "saturn_run") why ≡ Some due → IsFound asked outside due
  read : (input : Input) → IsInput outside.held (machine_of asked.options) (files_of asked.options) input
      → IsFound asked outside (due_of_told (codes "saturn_run") asked.function.now (told_of asked input))

-- ---- the words

-- what the words ask for
abbrev pub Ask : (words : List (List ℕ)) → RunWords → Type 0
Ask words asked = (command : App) × IsRun command × (rows : List Row) × Give command words rows × HaveRun rows asked

-- the words call for help, or for the version
abbrev pub AskForHelp : (words : List (List ℕ)) → Type 0
AskForHelp words = (command : App) × IsRun command × CallForHelp command words

-- the words have a fault other than these calls
abbrev pub AreBad : (words : List (List ℕ)) → Type 0
AreBad words = (command : App) × IsRun command × HaveFault command words

-- the words have no fault, for each form that the command may have
abbrev pub AreGood : (words : List (List ℕ)) → Type 0
AreGood words = (command : App) → IsRun command → faults command words ≡ []

-- why the words ask for nothing
abbrev pub AskNothing : (words : List (List ℕ)) → NoWords → Type 0
AskNothing words why = (command : App) × IsRun command × AskForNothing command words why

-- What is due for these words and the files outside. Of the texts of help and of bad words, which `clap` makes, nothing
-- is said.
pub data IsDue (words : List (List ℕ)) (outside : Outside) : Due → Type 0 where
  helped : (bytes : List ℕ) → AskForHelp words → IsDue words outside (ToOutput Helped bytes)
  bad_words : (bytes : List ℕ) → AreBad words → IsDue words outside (ToErrors BadWords bytes)
  found : (asked : RunWords) (due : Due) → Ask words asked → IsFound asked outside due → IsDue words outside due

-- the words name this file, as one of the files or as that of the machine
abbrev pub NamesFile : (words : List (List ℕ)) → (name : List ℕ) → Type 0
NamesFile words name =
    (asked : RunWords) × Ask words asked
    × ((is_named name (files_of asked.options) ≡ true) ⊎ (machine_of asked.options ≡ Some name))

-- what the words are
abbrev pub wording : (words : List (List ℕ)) → Wording
wording words =
    record { AskForHelp = AskForHelp words; AreBad = AreBad words; AreGood = AreGood words; NamesFile = NamesFile words }
