-- The commands of the three programs, as far as `clap` reads them: which arguments there are, which values they take,
-- and which of them have to be there. The texts of help and of the version are no part of it.

use Rattle.std.specs.Prelude.{◌≡◌, ℤ, pos, List, [], ◌∷◌, map, Some, codes, true}
use Rattle.std.specs.Borrow.{Bor}
use Rattle.clap.specs.Lexer.{usize_max}
use Rattle.clap.specs.Words.{App, Rule, Text, new_rule}
use Rattle.clap.specs.Simple.{new_shape}
use Rattle.clap.specs.declared.builder.action.ArgAction.TheVariants.{Set, Append}
use Rattle.clap.specs.declared.builder.value_parser.ValueParser.TheVariants as parser

-- ---- arguments

-- `--name VALUE`
abbrev pub text_option : Text → Rule
text_option name = record (new_rule name) { long = Some name; action = Some Set }

-- `--name VALUE`, which has to be there
abbrev pub needed_option : Text → Rule
needed_option name = record (new_rule name) { long = Some name; action = Some Set; required = true }

-- `--name N`, with a number from `low` to `high`
abbrev pub number_option : Text → ℤ → ℤ → Rule
number_option name low high =
    record (new_rule name) { long = Some name; action = Some Set; parser = Some (parser.Signed low high) }

-- `--name WORD`, with one of these words
abbrev pub word_option : Text → Bor (List (Bor Text)) → Rule
word_option name choices =
    record (new_rule name) { long = Some name; action = Some Set; parser = Some (parser.Names choices) }

-- a number from `low` to `high`, which has to be there, by its place among the words
abbrev pub number_argument : Text → ℤ → ℤ → Rule
number_argument name low high =
    record (new_rule name) { required = true; action = Some Set; parser = Some (parser.Signed low high) }

-- one or more files, behind all other arguments
abbrev pub files_argument : Rule
files_argument = record (new_rule (codes "FILE")) {
  required = true;
  action = Some Append;
  range = Some (record { start_inclusive = 1; end_inclusive = usize_max });
}

-- ---- commands

-- the command with this name and these arguments, which tells its version
abbrev pub command : Text → List Rule → App
command name rules = record { top = record (new_shape name) { rules = rules; has_version = true }; subs = [] }

-- what `saturn_check` and `saturn_run` have in common, but for the files: depth, reach, widths and a machine of states
abbrev pub options : Bor (List (Bor Text)) → List Rule → List Rule
options models more =
    number_option (codes "depth") (pos 1) (pos 8) ∷ number_option (codes "reach") (pos 1) (pos 4)
    ∷ word_option (codes "model") models ∷ text_option (codes "machine") ∷ more

-- `saturn_check [--depth D] [--reach R] [--model M] [--machine FILE] [--format WORD] [--jobs J] FILE ..`
unfoldable pub check_command : (models formats : Bor (List (Bor Text))) → App
check_command models formats =
    command (codes "saturn_check")
    (options models
    (word_option (codes "format") formats ∷ number_option (codes "jobs") (pos 1) (pos 64) ∷ files_argument ∷ []))

-- `saturn_run [--depth D] [--reach R] [--model M] [--machine FILE] [--format WORD] --function NAME --choice HEX FILE ..`
unfoldable pub run_command : (models formats : Bor (List (Bor Text))) → App
run_command models formats =
    command (codes "saturn_run")
    (options models
    (word_option (codes "format") formats ∷ needed_option (codes "function") ∷ needed_option (codes "choice") ∷ files_argument ∷ []))

-- `saturn_bench [--jobs J] N SEED`
unfoldable pub bench_command : App
bench_command =
    command (codes "saturn_bench")
    (number_option (codes "jobs") (pos 1) (pos 64) ∷ number_argument (codes "N") (pos 1) (pos 4096)
    ∷ number_argument (codes "SEED") (pos 0) (pos 4294967295) ∷ [])

-- ---- which command a program has

-- the words that `--model` takes: the widths
abbrev pub model_words : List Text
model_words = codes "ilp32" ∷ codes "lp64" ∷ []

-- the texts behind these references are the words of `--model`
abbrev pub AreModels : Bor (List (Bor Text)) → Type 0
AreModels models = map (λ word. word.now) models.now ≡ model_words

-- the words that `--format` takes
abbrev pub format_words : List Text
format_words = codes "text" ∷ codes "json" ∷ []

-- the texts behind these references are the words of `--format`
abbrev pub AreFormats : Bor (List (Bor Text)) → Type 0
AreFormats formats = map (λ word. word.now) formats.now ≡ format_words

-- The command of a program. `clap` keeps the words of `--model` and `--format` as references; where they lie in memory is
-- open.
abbrev pub IsCheck : App → Type 0
IsCheck command =
    (models : Bor (List (Bor Text))) × AreModels models
    × (formats : Bor (List (Bor Text))) × AreFormats formats × (command ≡ check_command models formats)

abbrev pub IsRun : App → Type 0
IsRun command =
    (models : Bor (List (Bor Text))) × AreModels models
    × (formats : Bor (List (Bor Text))) × AreFormats formats × (command ≡ run_command models formats)

abbrev pub IsBench : App → Type 0
IsBench command = command ≡ bench_command
