-- Where the files are refused, what is due may be due.
use Rattle.std.proofs.Common.{◌≡◌, ◌⊎◌, ℕ, true, List, Option, Some, None, sym, subst}
use Rattle.sc_base.specs.Held.{is_named}
use Rattle.sc_input.specs.declared.refusal.Refusal.{Refusal}
use Rattle.sc_input.specs.declared.refusal.Refusal.TheVariants as refusal
use Rattle.sc_input.specs.Input.{Outside, Refuse}
use Rattle.top_answers.specs.declared.status.Status.TheVariants.{Refused, ReadFault}
use Rattle.top_answers.specs.Answer.{Due, ToErrors}
use Rattle.top_answers.specs.Promises.{Wording}
use Rattle.top_answers.specs.Refusals.{due_of_refusal}
use Rattle.top_answers.proofs.Dues.{inside}
use Rattle.top_answers.proofs.Owed.{Owed, unread}
use Rattle.top_answers.proofs.Owed as owed
use Rattle.top_answers.proofs.Unread.{IsOne, Says, says}

module _ (words : Wording) (files : Outside) (machine : Option (List ℕ)) (names : List (List ℕ))
    (named : (name : List ℕ) → IsOne machine names name → words.NamesFile name) where
  line : (bytes : List ℕ) (due : Due) → Some (ToErrors Refused bytes) ≡ Some due → Owed words files due
  line bytes due is = subst (Owed words files) (inside (ToErrors Refused bytes) due is) (owed.refusal bytes)

  by_saying : (program : List ℕ) (why : Refusal) (due : Due) → Says files machine names why → due_of_refusal program why ≡ Some due
      → Owed words files due
  by_saying program (refusal.Files count) due said is = line _ due is
  by_saying program (refusal.Unread shown) due said is =
      subst (Owed words files) (inside (ToErrors ReadFault _) due is) (unread _ said.0 (named said.0 said.1) said.2)
  by_saying program refusal.Bytes due said is = line _ due is
  by_saying program (refusal.Machine number) due said is = line _ due is
  by_saying program (refusal.Lexical shown pos) due said is = line _ due is
  by_saying program (refusal.Unbalanced shown pos) due said is = line _ due is
  by_saying program refusal.OutOfMemory due said is = absurd (cc)

  pub by_refusal : (program : List ℕ) (why : Refusal) (due : Due) → Refuse files machine names why → due_of_refusal program why ≡ Some due
      → Owed words files due
  by_refusal program why due refuses is = by_saying program why due (says files machine names why refuses) is
