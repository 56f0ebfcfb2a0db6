-- What every top call promises of its answer.

use Rattle.std.specs.Prelude.{◌≡◌, ◌⊎◌, ℕ, List, Option, true, false}
use Rattle.sc_base.specs.Causes.{Rose}
use Rattle.sc_base.specs.Held.{is_named}
use Rattle.sc_base.specs.Taken.{SinkChange, Keeps}
use Rattle.sc_input.specs.Input.{Outside}
use Rattle.top_answers.specs.declared.status.Status.{Status}
use Rattle.top_answers.specs.declared.status.Status.TheVariants.{BadWords, ReadFault, WriteFault, Helped}
use Rattle.top_answers.specs.Answer.{Due, Answers, has_output, is_finding}

-- the files before and after a call: which there are, where that is told, which names are firm, and the count of faults
abbrev pub around : (held : Option (List (List ℕ × List ℕ))) → (firm : List (List ℕ)) → (faults_before faults_after : ℕ) → Outside
around held firm faults_before faults_after =
    record { held = held; firm = firm; faults_before = faults_before; faults_after = faults_after }

-- a sink before and after a call: its count of faults, and what it took, where that is told
abbrev pub change : (faults_before faults_after : ℕ) → (before after : Option (List ℕ)) → SinkChange
change faults_before faults_after before after =
    record { faults_before = faults_before; faults_after = faults_after; before = before; after = after }

-- What the words of a call are: they call for help, they have another fault, they have none, they name this file.
pub record Wording : Type 1 where
  pub AskForHelp : Type 0
  pub AreBad : Type 0
  pub AreGood : Type 0
  pub NamesFile : List ℕ → Type 0

-- What a call promises, where these answers may be due for its words and its files.
pub record Promises (IsDue : Due → Type 0) (words : Wording) (files : Outside) (out err : SinkChange) (answer : Status) : Type 0 where
  -- Memory was refused and nothing was written; or an answer that is due was given, and its bytes went to their sink,
  -- whole or, where that failed, up to the fault.
  pub answers : Answers IsDue answer out err
  -- Each answer has its cause.
  pub bad_words : answer ≡ BadWords → words.AreBad
  pub helped : answer ≡ Helped → words.AskForHelp
  pub read_fault : answer ≡ ReadFault → Rose files.faults_before files.faults_after
  pub not_firm : answer ≡ ReadFault → (name : List ℕ) × words.NamesFile name × (is_named name files.firm ≡ false)
  pub write_fault : answer ≡ WriteFault → Rose out.faults_before out.faults_after ⊎ Rose err.faults_before err.faults_after
  -- With good words and no fault the answer says what the files are, or that memory was refused.
  pub complete : words.AreGood → ¬ Rose files.faults_before files.faults_after → ¬ Rose out.faults_before out.faults_after
      → ¬ Rose err.faults_before err.faults_after → is_finding answer ≡ true
  -- Nothing was written to the output with an answer that has none.
  pub quiet : has_output answer ≡ false → Keeps out.before out.after
