-- What the words of a command line ask for. Which values the words give, and which faults they have, is what `clap`
-- defines for the command of the program.

use Rattle.std.specs.Prelude.{◌≡◌, ◌≢◌, ◌⊎◌, ⊤, ℕ, List, [], Option, Some, None, codes, map, option_map}
use Rattle.std.specs.Prelude.{if◌then◌else◌, ◌≤◌}
use Rattle.std.specs.Option.{option_map_or}
use Rattle.std.specs.Str.{bytes_eq}
use Rattle.std.specs.Str.Parse.{digits_value, without_leading_plus}
use Rattle.clap.specs.Words.{App, IsAmong, Kinds, Row, Text, all_of, fault_of, first_of, matches_of, one_of}
use Rattle.clap.specs.declared.error.kind.ErrorKind.{ErrorKind}
use Rattle.clap.specs.declared.error.kind.ErrorKind.TheVariants.{DisplayHelp, DisplayVersion}
use Rattle.sc_tree.specs.declared.ctype.Widths.{Widths}
use Rattle.sc_tree.specs.declared.ctype.Widths.TheVariants.{Ilp32, Lp64}
use Rattle.saturn_words.specs.declared.asked.BenchWords.{BenchWords}
use Rattle.saturn_words.specs.declared.asked.CheckWords.{CheckWords}
use Rattle.saturn_words.specs.declared.asked.Format.{Format}
use Rattle.saturn_words.specs.declared.asked.Format.TheVariants as form
use Rattle.saturn_words.specs.declared.asked.Options.{Options}
use Rattle.saturn_words.specs.declared.asked.RunWords.{RunWords}
use Rattle.saturn_words.specs.declared.words.NoWords.{NoWords}
use Rattle.saturn_words.specs.declared.words.NoWords.TheVariants.{Help, Bad, Memory}

-- ---- what the words of a command give, by what was found for each argument

-- the number of an argument, or `default` if the words do not have it
abbrev pub number_or : ℕ → Text → List Row → ℕ
number_or default name rows =
    option_map_or (λ text. digits_value 10 (without_leading_plus text)) (one_of name rows) default

-- the widths that `--model` names, ILP32 if the words do not have it
abbrev pub widths_of : Option Text → Widths
widths_of None = Ilp32
widths_of (Some word) = if bytes_eq word (codes "lp64") then Lp64 else Ilp32

-- the form of the output that `--format` names, text if the words do not have it
abbrev pub format_of : Option Text → Format
format_of None = form.Text
format_of (Some word) = if bytes_eq word (codes "json") then form.Json else form.Text

pub record HaveOptions (rows : List Row) (asked : Options) : Type 0 where
  pub depth : asked.depth ≡ number_or 2 (codes "depth") rows
  pub depth_fits : (1 ≤ asked.depth) × (asked.depth ≤ 8)
  pub reach : asked.reach ≡ number_or 2 (codes "reach") rows
  pub reach_fits : (1 ≤ asked.reach) × (asked.reach ≤ 4)
  pub widths : asked.widths ≡ widths_of (first_of (codes "model") rows)
  pub machine : option_map (λ name. name.now) asked.machine ≡ first_of (codes "machine") rows
  pub files : Some (map (λ name. name.now) asked.files.items) ≡ all_of (codes "FILE") rows

pub record HaveCheck (rows : List Row) (asked : CheckWords) : Type 0 where
  pub options : HaveOptions rows asked.options
  pub format : asked.format ≡ format_of (first_of (codes "format") rows)
  pub jobs : asked.jobs ≡ number_or 1 (codes "jobs") rows
  pub jobs_fit : (1 ≤ asked.jobs) × (asked.jobs ≤ 64)

pub record HaveRun (rows : List Row) (asked : RunWords) : Type 0 where
  pub options : HaveOptions rows asked.options
  pub format : asked.format ≡ format_of (first_of (codes "format") rows)
  pub function : Some asked.function.now ≡ first_of (codes "function") rows
  pub choice : Some asked.choice.now ≡ first_of (codes "choice") rows

pub record HaveBench (rows : List Row) (asked : BenchWords) : Type 0 where
  pub functions : asked.functions ≡ number_or 1 (codes "N") rows
  pub functions_fit : (1 ≤ asked.functions) × (asked.functions ≤ 4096)
  pub seed : asked.seed ≡ number_or 0 (codes "SEED") rows
  pub jobs : asked.jobs ≡ number_or 1 (codes "jobs") rows
  pub jobs_fit : (1 ≤ asked.jobs) × (asked.jobs ≤ 64)

-- ---- good words, bad words, and a call for help or for the version

-- the faults of the words, of which calls for help and for the version are some
unfoldable pub faults : App → List Text → Kinds
faults command words = fault_of command words

-- what the words give for each argument
unfoldable pub rows_of_words : App → List Text → List Row
rows_of_words command words = matches_of command words

-- the words have no fault for the command, and these are what was found for its arguments
abbrev pub Give : App → List Text → List Row → Type 0
Give command words rows = (faults command words ≡ []) × (rows ≡ rows_of_words command words)

-- the words call for help, or for the version
abbrev pub CallForHelp : App → List Text → Type 0
CallForHelp command words = IsAmong DisplayHelp (faults command words) ⊎ IsAmong DisplayVersion (faults command words)

-- the words have a fault other than these
abbrev pub HaveFault : App → List Text → Type 0
HaveFault command words =
    (kind : ErrorKind) × IsAmong kind (faults command words) × (kind ≢ DisplayHelp) × (kind ≢ DisplayVersion)

-- why the words ask for nothing
abbrev pub AskForNothing : App → List Text → NoWords → Type 0
AskForNothing command words (Help text) = CallForHelp command words
AskForNothing command words (Bad text) = HaveFault command words
AskForNothing command words Memory = ⊤
