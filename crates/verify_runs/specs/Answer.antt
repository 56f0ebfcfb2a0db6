-- What a run of the program answers and writes: the answer that is due for its words and for the bytes that it reads,
-- and whether a run gave it.

use Rattle.std.specs.Prelude.{◌≡◌, ◌⊎◌, ℕ, Bool, true, false, List, Option}
use Rattle.sc_base.specs.Causes.{Rose}
use Rattle.sc_base.specs.Held.{is_named, IsRead}
use Rattle.sc_base.specs.Taken.{SinkChange, Keeps, Went}
use Rattle.verify_runs.specs.declared.finding.Finding.{Finding}
use Rattle.verify_runs.specs.declared.finding.Finding.TheVariants as found
use Rattle.verify_runs.specs.declared.verified.Verified.{Verified}
use Rattle.verify_runs.specs.declared.verified.Verified.TheVariants.{Accepted, Rejected, Refused, BadWords}
use Rattle.verify_runs.specs.declared.verified.Verified.TheVariants.{ReadFault, WriteFault, Memory, Helped}
use Rattle.verify_runs.specs.Words.{AskForHelp, HaveFault, Name}
use Rattle.verify_runs.specs.Finding.{IsFinding}
use Rattle.verify_runs.specs.Lines.{line_of, unread_line}

-- ---- what is due

-- the answer that is due, and its bytes, which go to standard output or to the error output
pub data Due : Type 0 where
  ToOutput : Verified → List ℕ → Due
  ToErrors : Verified → List ℕ → Due

-- The files before and after the run: which there are, where that is told, which names are firm, and the count of
-- faults.
pub record Source : Type 0 where
  pub held : Option (List (List ℕ × List ℕ))
  pub firm : List (List ℕ)
  pub faults_before : ℕ
  pub faults_after : ℕ

-- as many bytes of a file are read: one more than a file may have
abbrev pub read_limit : ℕ
read_limit = 268435457

-- what is due for what the file of this name is
abbrev pub due_for : List ℕ → Finding → Due
due_for name found.TooLong = ToErrors Refused (line_of name found.TooLong)
due_for name (found.Malformed line) = ToErrors Refused (line_of name (found.Malformed line))
due_for name (found.Accepted clauses steps) = ToOutput Accepted (line_of name (found.Accepted clauses steps))
due_for name (found.Rejected step) = ToOutput Rejected (line_of name (found.Rejected step))

-- Of the words: help, or bad words, where the words ask for that or have a fault (with bytes that `clap` makes, of
-- which nothing is said); else a fault of reading, where the count of faults rose and the file's name is no firm one;
-- or what is due for the bytes that are read. Where the count of faults rose, the last two may both be due.
pub data IsDue (words : List (List ℕ)) (source : Source) : Due → Type 0 where
  helped : (bytes : List ℕ) → AskForHelp words → IsDue words source (ToOutput Helped bytes)
  bad_words : (bytes : List ℕ) → HaveFault words → IsDue words source (ToErrors BadWords bytes)
  unread : (name : List ℕ) → Name words name → Rose source.faults_before source.faults_after → is_named name source.firm ≡ false
      → IsDue words source (ToErrors ReadFault (unread_line name))
  read : (name bytes : List ℕ) (finding : Finding) → Name words name → IsRead read_limit source.held name bytes → IsFinding bytes finding
      → IsDue words source (due_for name finding)

-- ---- what a run gave

-- The due answer was given: its bytes went to its sink, and the other sink got nothing; or its sink failed, and the
-- answer is the fault of writing.
abbrev pub IsAnswered : Due → (answer : Verified) → (out err : SinkChange) → Type 0
IsAnswered (ToOutput due bytes) answer out err = Went due WriteFault answer out bytes × Keeps err.before err.after
IsAnswered (ToErrors due bytes) answer out err = Went due WriteFault answer err bytes × Keeps out.before out.after

-- A run of the program: memory was refused and neither sink got anything, or an answer that is due was given.
abbrev pub Answers : (words : List (List ℕ)) → Source → (answer : Verified) → (out err : SinkChange) → Type 0
Answers words source answer out err =
    ((answer ≡ Memory) × Keeps out.before out.after × Keeps err.before err.after)
    ⊎ ((due : Due) × IsDue words source due × IsAnswered due answer out err)

-- The answers with which bytes may have gone to the output. With each other one none has.
abbrev pub has_output : Verified → Bool
has_output Accepted = true
has_output Rejected = true
has_output Helped = true
has_output WriteFault = true
has_output Refused = false
has_output BadWords = false
has_output ReadFault = false
has_output Memory = false

-- The answers that say what the file is, or that memory was refused: those that come without a fault and with good words.
abbrev pub is_finding : Verified → Bool
is_finding Accepted = true
is_finding Rejected = true
is_finding Refused = true
is_finding Memory = true
is_finding BadWords = false
is_finding ReadFault = false
is_finding WriteFault = false
is_finding Helped = false
