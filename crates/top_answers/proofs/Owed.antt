-- Why an answer may be due.
use Rattle.std.specs.Prelude.{◌≡◌, ◌⊎◌, ℕ, List}
use Rattle.sc_input.specs.Input.{Outside, IsUnread}
use Rattle.top_answers.specs.declared.status.Status.{Status}
use Rattle.top_answers.specs.declared.status.Status.TheVariants.{Clean, Reports, Refused, BadWords, ReadFault, Helped}
use Rattle.top_answers.specs.Answer.{Due, ToOutput, ToErrors}
use Rattle.top_answers.specs.Promises.{Wording}

-- the statuses of a text
abbrev pub HasText : Status → Type 0
HasText due = (due ≡ Clean) ⊎ (due ≡ Reports)

-- The words call for help, or have another fault; there is a text; the files are refused; one of them was not read.
pub data Owed (words : Wording) (files : Outside) : Due → Type 0 where
  help : (bytes : List ℕ) → words.AskForHelp → Owed words files (ToOutput Helped bytes)
  bad : (bytes : List ℕ) → words.AreBad → Owed words files (ToErrors BadWords bytes)
  text : (due : Status) (bytes : List ℕ) → HasText due → Owed words files (ToOutput due bytes)
  refusal : (bytes : List ℕ) → Owed words files (ToErrors Refused bytes)
  unread : (bytes name : List ℕ) → words.NamesFile name → IsUnread files name → Owed words files (ToErrors ReadFault bytes)

-- words with a fault, or with a call for help, are not good
pub record IsSound (words : Wording) : Type 0 where
  pub no_help : words.AskForHelp → ¬ words.AreGood
  pub no_fault : words.AreBad → ¬ words.AreGood
