-- What is due for words may be due: help or bad words, a text, a refusal; and with which statuses.
use Rattle.std.proofs.Common.{◌≡◌, ℕ, true, false, List, [], Some, None, refl, sym, subst, ◌∙◌, inl, inr, ⊎_elim}
use Rattle.sc_base.specs.Taken.{SinkChange, Went}
use Rattle.sc_input.specs.declared.refusal.Refusal.{Refusal}
use Rattle.sc_input.specs.declared.refusal.Refusal.TheVariants as cause
use Rattle.sc_input.specs.Input.{Outside}
use Rattle.top_answers.specs.declared.status.Status.{Status}
use Rattle.top_answers.specs.declared.status.Status.TheVariants.{Clean, Refused, WriteFault}
use Rattle.top_answers.specs.Answer.{Due, ToOutput, ToErrors, IsAnswered}
use Rattle.top_answers.specs.Promises.{around}
use Rattle.top_answers.specs.Refusals.{due_of_refusal}
use Rattle.top_answers.proofs.Dues.{inside}
use Rattle.top_answers.proofs.Owed.{Owed, help, bad, text, refusal, IsSound}
use Rattle.top_answers.proofs.Unread.{Unread, Says, says}
use Rattle.bench_checks.specs.declared.program.NoProgram.{NoProgram}
use Rattle.bench_checks.specs.declared.program.NoProgram.TheVariants as no
use Rattle.bench_checks.specs.Bench.{bench_names, bench_outside, HasNoProgram, IsRefused}
use Rattle.bench_top.specs.Bench.{bench_name, due_of, may_answer, wording, IsDue, IsFound, helped, bad_words, found, counted, refused}

-- ---- a refusal has its line on the error output

abbrev IsLine : Due → Type 0
IsLine due = (bytes : List ℕ) × (due ≡ ToErrors Refused bytes)

line : (bytes : List ℕ) (due : Due) → Some (ToErrors Refused bytes) ≡ Some due → IsLine due
line bytes due is = (bytes, sym (inside (ToErrors Refused bytes) due is))

-- the one file has a firm name
never_unread : (count seed faults : ℕ) → Unread (bench_outside count seed faults) None bench_names → ⊥
never_unread count seed faults unread =
    ⊎_elim (λ one. let wrong : true ≡ false = sym one ∙ unread.2.not_firm in (cc)) (λ one. (cc)) unread.1

by_saying : (count seed faults : ℕ) (why : Refusal) (due : Due) → Says (bench_outside count seed faults) None bench_names why
    → due_of_refusal bench_name why ≡ Some due → IsLine due
by_saying count seed faults (cause.Files n) due said is = line _ due is
by_saying count seed faults (cause.Unread shown) due said is = absurd (never_unread count seed faults said)
by_saying count seed faults cause.Bytes due said is = line _ due is
by_saying count seed faults (cause.Machine number) due said is = line _ due is
by_saying count seed faults (cause.Lexical shown pos) due said is = line _ due is
by_saying count seed faults (cause.Unbalanced shown pos) due said is = line _ due is
by_saying count seed faults cause.OutOfMemory due said is = absurd (cc)

by_refusal : (count seed : ℕ) (why : Refusal) (due : Due) → IsRefused count seed why → due_of_refusal bench_name why ≡ Some due → IsLine due
by_refusal count seed why due refuses is =
    by_saying count seed refuses.0 why due (says (bench_outside count seed refuses.0) None bench_names why refuses.1) is

by_reason : (count seed : ℕ) (why : NoProgram) (due : Due) → HasNoProgram count seed why → due_of why ≡ Some due → IsLine due
by_reason count seed (no.Refused why) due has is = by_refusal count seed why due has is
by_reason count seed (no.Twice name) due has is = line _ due is
by_reason count seed (no.Beyond kind n) due has is = line _ due is
by_reason count seed no.OutOfMemory due has is = absurd (cc)

-- ---- which status is due

abbrev HasKind : Due → Type 0
HasKind (ToOutput due bytes) = may_answer due ≡ true
HasKind (ToErrors due bytes) = may_answer due ≡ true

of_went : (due answer : Status) (sink : SinkChange) (bytes : List ℕ) → may_answer due ≡ true → Went due WriteFault answer sink bytes
    → may_answer answer ≡ true
of_went due answer sink bytes kind (inl went) = let P : Status → Type 0 = λ s. may_answer s ≡ true in subst P (sym went.0) kind
of_went due answer sink bytes kind (inr fault) = let P : Status → Type 0 = λ s. may_answer s ≡ true in subst P (sym fault.0) refl

of_given : (due : Due) (answer : Status) (out err : SinkChange) → HasKind due → IsAnswered due answer out err → may_answer answer ≡ true
of_given (ToOutput due bytes) answer out err kind given = of_went due answer out bytes kind given.0
of_given (ToErrors due bytes) answer out err kind given = of_went due answer err bytes kind given.0

-- ---- the words

-- words with a fault, or with a call for help, are not good
pub sound : (words : List (List ℕ)) → IsSound (wording words)
sound words = record {
  no_help = λ asked good. elim (rw (good asked.0 asked.1) at asked.2) [ inl h ↦ absurd h | inr h ↦ absurd h ];
  no_fault = λ wrong good. absurd (rw (good wrong.0 wrong.1) at wrong.2.1);
}

abbrev no_files : Outside
no_files = around None [] 0 0

module _ (words : List (List ℕ)) where
  of_line : (due : Due) → IsLine due → Owed (wording words) no_files due × HasKind due
  of_line due is =
      let P : Due → Type 0 = λ d. Owed (wording words) no_files d × HasKind d in
      subst P (sym is.1) (refusal is.0, refl)

  of_found : (count seed : ℕ) (due : Due) → IsFound count seed due → Owed (wording words) no_files due × HasKind due
  of_found count seed due (counted lines is) = (text Clean lines (inl refl), refl)
  of_found count seed due (refused why d has is) = of_line due (by_reason count seed why due has is)

  of_due : (due : Due) → IsDue words due → Owed (wording words) no_files due × HasKind due
  of_due due (helped bytes asked) = (help bytes asked, refl)
  of_due due (bad_words bytes wrong) = (bad bytes wrong, refl)
  of_due due (found asked d ask is) = of_found asked.functions asked.seed due is

  pub owing : (due : Due) → IsDue words due → Owed (wording words) no_files due
  owing due is = (of_due due is).0

  pub kind : (due : Due) (answer : Status) (out err : SinkChange) → IsDue words due → IsAnswered due answer out err
      → may_answer answer ≡ true
  kind due answer out err is given = of_given due answer out err (of_due due is).1 given
