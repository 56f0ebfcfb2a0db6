-- What is due, and what a run of a program gave.

use Rattle.std.specs.Prelude.{◌≡◌, ◌⊎◌, ℕ, Bool, true, false, List}
use Rattle.sc_base.specs.Taken.{SinkChange, Keeps, Went}
use Rattle.top_answers.specs.declared.status.Status.{Status}
use Rattle.top_answers.specs.declared.status.Status.TheVariants.{Clean, Reports, Refused, BadWords, ReadFault, WriteFault, Memory, Helped}

-- the answer that is due, and its bytes, which go to standard output or to the error output
pub data Due : Type 0 where
  ToOutput : Status → List ℕ → Due
  ToErrors : Status → List ℕ → Due

-- The due answer was given: its bytes went to its sink, and the other sink got nothing; or its sink failed with a proper
-- front of them, and the answer is the fault of writing.
abbrev pub IsAnswered : Due → (answer : Status) → (out err : SinkChange) → Type 0
IsAnswered (ToOutput due bytes) answer out err = Went due WriteFault answer out bytes × Keeps err.before err.after
IsAnswered (ToErrors due bytes) answer out err = Went due WriteFault answer err bytes × Keeps out.before out.after

-- A run of a program: memory was refused and neither sink got anything, or an answer that is due was given.
abbrev pub Answers : (IsDue : Due → Type 0) → (answer : Status) → (out err : SinkChange) → Type 0
Answers IsDue answer out err =
    ((answer ≡ Memory) × Keeps out.before out.after × Keeps err.before err.after)
    ⊎ ((due : Due) × IsDue due × IsAnswered due answer out err)

-- The answers with which bytes may have gone to the output. With each other one none has.
abbrev pub has_output : Status → Bool
has_output Clean = true
has_output Reports = true
has_output Helped = true
has_output WriteFault = true
has_output Refused = false
has_output BadWords = false
has_output ReadFault = false
has_output Memory = false

-- The answers that say what the files are, or that memory was refused: those that come without a fault and with good
-- words.
abbrev pub is_finding : Status → Bool
is_finding Clean = true
is_finding Reports = true
is_finding Refused = true
is_finding Memory = true
is_finding BadWords = false
is_finding ReadFault = false
is_finding WriteFault = false
is_finding Helped = false
