-- The words of the command line: the program's name, and one file. What the words give is what `clap` defines for
-- this command.

use Rattle.std.specs.Prelude.{◌≡◌, ◌≢◌, ◌⊎◌, ⊤, List, [], ℕ, Option, Some, codes, true}
use Rattle.clap.specs.Words.{App, Kinds, IsAmong, fault_of, first_of, matches_of, new_rule, with_rule}
use Rattle.clap.specs.Simple.{new_shape}
use Rattle.clap.specs.declared.builder.action.ArgAction.TheVariants.{Set}
use Rattle.clap.specs.declared.error.kind.ErrorKind.{ErrorKind}
use Rattle.clap.specs.declared.error.kind.ErrorKind.TheVariants.{DisplayHelp, DisplayVersion}
use Rattle.verify_runs.specs.declared.words.NoFile.{NoFile}
use Rattle.verify_runs.specs.declared.words.NoFile.TheVariants.{Help, Bad, Memory}

-- the command without its argument, which tells its version
abbrev pub bare_command : App
bare_command = record { top = record (new_shape (codes "saturn_verify")) { has_version = true }; subs = [] }

-- one word is required, the name of a file
abbrev pub command : App
command = with_rule bare_command (record (new_rule (codes "FILE")) { required = true; action = Some Set })

-- the faults of the words, of which calls for help and for the version are some
unfoldable pub faults : List (List ℕ) → Kinds
faults words = fault_of command words

-- the words ask for help, or for the version
abbrev pub AskForHelp : List (List ℕ) → Type 0
AskForHelp words = IsAmong DisplayHelp (faults words) ⊎ IsAmong DisplayVersion (faults words)

-- the words have a fault other than these
abbrev pub HaveFault : List (List ℕ) → Type 0
HaveFault words = (kind : ErrorKind) × IsAmong kind (faults words) × (kind ≢ DisplayHelp) × (kind ≢ DisplayVersion)

unfoldable pub file_of : List (List ℕ) → Option (List ℕ)
file_of words = first_of (codes "FILE") (matches_of command words)

-- the words have no fault, and name this file
abbrev pub Name : List (List ℕ) → List ℕ → Type 0
Name words file = (faults words ≡ []) × (file_of words ≡ Some file)

-- why the words name no file
abbrev pub HaveNoFile : List (List ℕ) → NoFile → Type 0
HaveNoFile words (Help text) = AskForHelp words
HaveNoFile words (Bad text) = HaveFault words
HaveNoFile words Memory = ⊤
