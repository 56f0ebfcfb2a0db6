-- What is due for words and files may be due: help or bad words, a text, a refusal, a file that was not read. No text has
-- reports.
use Rattle.std.proofs.Common.{◌≡◌, ◌∙◌, ℕ, List, Some, refl, sym, subst, inl, inr}
use Rattle.std.specs.Prelude.{codes}
use Rattle.sc_base.specs.Taken.{SinkChange}
use Rattle.sc_input.specs.Input.{Outside}
use Rattle.sc_input.specs.declared.refusal.Refusal.{Refusal}
use Rattle.sc_input.specs.declared.refusal.Refusal.TheVariants as refusal
use Rattle.saturn_words.specs.declared.asked.RunWords.{RunWords}
use Rattle.whole_replays.specs.Told.{Told, Run, Twice, Beyond, NoFunction, Skipped, BadChoice}
use Rattle.top_answers.specs.declared.status.Status.{Status}
use Rattle.top_answers.specs.declared.status.Status.TheVariants.{Reports, Refused, ReadFault, WriteFault}
use Rattle.top_answers.specs.Answer.{Due, ToOutput, ToErrors, IsAnswered}
use Rattle.top_answers.specs.Refusals.{due_of_refusal}
use Rattle.top_answers.proofs.Dues.{inside}
use Rattle.top_answers.proofs.Owed.{Owed, help, bad, text, IsSound}
use Rattle.top_answers.proofs.Owed as owed
use Rattle.top_answers.proofs.ByRefusal.{by_refusal}
use Rattle.run_top.specs.Runs.{due_of_told, told_of, machine_of, files_of, IsFound, refused, read, Ask, IsDue, helped, bad_words, found, wording}

-- words with a fault, or with a call for help, are not good
pub sound : (words : List (List ℕ)) → IsSound (wording words)
sound words = record {
  no_help = λ asked good. elim (rw (good asked.0 asked.1) at asked.2) [ inl h ↦ absurd h | inr h ↦ absurd h ];
  no_fault = λ wrong good. absurd (rw (good wrong.0 wrong.1) at wrong.2.1);
}

-- ---- why it may be due

module _ (words : List (List ℕ)) (outside : Outside) where
  owing_told : (program name : List ℕ) (t : Told) → Owed (wording words) outside (due_of_told program name t)
  owing_told program name (Run bytes) = text _ bytes (inl refl)
  owing_told program name (Twice twice) = owed.refusal _
  owing_told program name (Beyond kind count) = owed.refusal _
  owing_told program name NoFunction = owed.refusal _
  owing_told program name Skipped = owed.refusal _
  owing_told program name BadChoice = owed.refusal _

  owing_found : (asked : RunWords) → Ask words asked → (due : Due) → IsFound asked outside due → Owed (wording words) outside due
  owing_found asked ask due (refused why d refuses is) =
      by_refusal (wording words) outside (machine_of asked.options) (files_of asked.options) (λ name one. (asked, ask, one)) (codes "saturn_run") why due
      refuses is
  owing_found asked ask due (read input is) = owing_told (codes "saturn_run") asked.function.now (told_of asked input)

  pub owing : (due : Due) → IsDue words outside due → Owed (wording words) outside due
  owing due (helped bytes asked) = help bytes asked
  owing due (bad_words bytes wrong) = bad bytes wrong
  owing due (found asked d ask is) = owing_found asked ask due is

-- ---- no reports

-- the status that is due is not that of reports
abbrev HasNone : Due → Type 0
HasNone (ToOutput due bytes) = due ≡ Reports → ⊥
HasNone (ToErrors due bytes) = due ≡ Reports → ⊥

none_told : (program name : List ℕ) (t : Told) → HasNone (due_of_told program name t)
none_told program name (Run bytes) = λ e. cc
none_told program name (Twice twice) = λ e. cc
none_told program name (Beyond kind count) = λ e. cc
none_told program name NoFunction = λ e. cc
none_told program name Skipped = λ e. cc
none_told program name BadChoice = λ e. cc

line : (status : Status) (bytes : List ℕ) (due : Due) → (status ≡ Reports → ⊥) → Some (ToErrors status bytes) ≡ Some due → HasNone due
line status bytes due other is = subst HasNone (inside (ToErrors status bytes) due is) other

none_refused : (program : List ℕ) (why : Refusal) (due : Due) → due_of_refusal program why ≡ Some due → HasNone due
none_refused program (refusal.Files count) due is = line Refused _ due (λ e. cc) is
none_refused program (refusal.Unread shown) due is = line ReadFault _ due (λ e. cc) is
none_refused program refusal.Bytes due is = line Refused _ due (λ e. cc) is
none_refused program (refusal.Machine number) due is = line Refused _ due (λ e. cc) is
none_refused program (refusal.Lexical shown pos) due is = line Refused _ due (λ e. cc) is
none_refused program (refusal.Unbalanced shown pos) due is = line Refused _ due (λ e. cc) is
none_refused program refusal.OutOfMemory due is = absurd (cc)

none_found : (asked : RunWords) (outside : Outside) (due : Due) → IsFound asked outside due → HasNone due
none_found asked outside due (refused why d refuses is) = none_refused (codes "saturn_run") why due is
none_found asked outside due (read input is) = none_told (codes "saturn_run") asked.function.now (told_of asked input)

none_due : (words : List (List ℕ)) (outside : Outside) (due : Due) → IsDue words outside due → HasNone due
none_due words outside due (helped bytes asked) = λ e. cc
none_due words outside due (bad_words bytes wrong) = λ e. cc
none_due words outside due (found asked d ask is) = none_found asked outside due is

-- what was answered is what is due, or a fault of writing
none_answered : (due : Due) (answer : Status) (out err : SinkChange) → HasNone due → IsAnswered due answer out err → answer ≡ Reports → ⊥
none_answered (ToOutput due bytes) answer out err none (inl went, kept) e = none (sym went.0 ∙ e)
none_answered (ToOutput due bytes) answer out err none (inr fault, kept) e = let wrong : WriteFault ≡ Reports = sym fault.0 ∙ e in cc
none_answered (ToErrors due bytes) answer out err none (inl went, kept) e = none (sym went.0 ∙ e)
none_answered (ToErrors due bytes) answer out err none (inr fault, kept) e = let wrong : WriteFault ≡ Reports = sym fault.0 ∙ e in cc

pub never : (words : List (List ℕ)) (outside : Outside) (due : Due) (answer : Status) (out err : SinkChange) → IsDue words outside due
    → IsAnswered due answer out err → answer ≡ Reports → ⊥
never words outside due answer out err is given = none_answered due answer out err (none_due words outside due is) given
