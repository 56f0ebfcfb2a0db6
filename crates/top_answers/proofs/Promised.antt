-- An answer that is due, given, keeps the promises of a call; so does want of memory.
use Rattle.std.proofs.Common.{◌≡◌, ◌⊎◌, ℕ, Bool, true, false, List, Option, Some, None, refl, sym, subst, inl, inr, ⊎_elim}
use Rattle.sc_base.specs.Causes.{Rose}
use Rattle.sc_base.specs.Held.{is_named}
use Rattle.sc_base.specs.Taken.{SinkChange, Keeps, Went}
use Rattle.sc_input.specs.Input.{Outside, IsUnread}
use Rattle.top_answers.specs.declared.status.Status.{Status}
use Rattle.top_answers.specs.declared.status.Status.TheVariants.{Clean, Reports, Refused, BadWords, ReadFault, WriteFault, Memory, Helped}
use Rattle.top_answers.specs.Answer.{Due, ToOutput, ToErrors, IsAnswered, Answers, has_output, is_finding}
use Rattle.top_answers.specs.Promises.{Wording, Promises, change}
use Rattle.top_answers.proofs.Owed.{HasText, Owed, help, bad, text, refusal, unread, IsSound}

-- a sink that nothing was written to has what it had
pub Keeps-itself : (taken : Option (List ℕ)) → Keeps taken taken
Keeps-itself None = tt
Keeps-itself (Some bytes) = refl

-- what is known of a call by its answer
record HasCauses (words : Wording) (files : Outside) (out err : SinkChange) (answer : Status) : Type 0 where
  pub bad_words : answer ≡ BadWords → words.AreBad
  pub helped : answer ≡ Helped → words.AskForHelp
  pub read_fault : answer ≡ ReadFault → Rose files.faults_before files.faults_after
  pub not_firm : answer ≡ ReadFault → (name : List ℕ) × words.NamesFile name × (is_named name files.firm ≡ false)
  pub write_fault : answer ≡ WriteFault → Rose out.faults_before out.faults_after ⊎ Rose err.faults_before err.faults_after
  pub complete : words.AreGood → ¬ Rose files.faults_before files.faults_after → ¬ Rose out.faults_before out.faults_after
      → ¬ Rose err.faults_before err.faults_after → is_finding answer ≡ true
  pub quiet : has_output answer ≡ false → Keeps out.before out.after

module _ (words : Wording) (files : Outside) (out err : SinkChange) where
  -- of an answer that has no cause of its own
  of_finding : (answer : Status) → is_finding answer ≡ true → (has_output answer ≡ false → Keeps out.before out.after)
      → HasCauses words files out err answer
  of_finding answer is kept = record {
    bad_words = λ e. absurd (let wrong : false ≡ true = rw e at is in (cc));
    helped = λ e. absurd (let wrong : false ≡ true = rw e at is in (cc));
    read_fault = λ e. absurd (let wrong : false ≡ true = rw e at is in (cc));
    not_firm = λ e. absurd (let wrong : false ≡ true = rw e at is in (cc));
    write_fault = λ e. absurd (let wrong : false ≡ true = rw e at is in (cc));
    complete = λ good unrisen to_out to_err. is;
    quiet = kept;
  }

  of_fault : Rose out.faults_before out.faults_after ⊎ Rose err.faults_before err.faults_after → HasCauses words files out err WriteFault
  of_fault rose = record {
    bad_words = λ e. absurd (cc);
    helped = λ e. absurd (cc);
    read_fault = λ e. absurd (cc);
    not_firm = λ e. absurd (cc);
    write_fault = λ e. rose;
    complete = λ good unrisen to_out to_err. absurd (⊎_elim to_out to_err rose);
    quiet = λ e. absurd (let wrong : true ≡ false = e in (cc));
  }

  of_help : words.AskForHelp → ¬ words.AreGood → HasCauses words files out err Helped
  of_help asked other = record {
    bad_words = λ e. absurd (cc);
    helped = λ e. asked;
    read_fault = λ e. absurd (cc);
    not_firm = λ e. absurd (cc);
    write_fault = λ e. absurd (cc);
    complete = λ good unrisen to_out to_err. absurd (other good);
    quiet = λ e. absurd (let wrong : true ≡ false = e in (cc));
  }

  of_bad_words : words.AreBad → ¬ words.AreGood → Keeps out.before out.after → HasCauses words files out err BadWords
  of_bad_words wrong other kept = record {
    bad_words = λ e. wrong;
    helped = λ e. absurd (cc);
    read_fault = λ e. absurd (cc);
    not_firm = λ e. absurd (cc);
    write_fault = λ e. absurd (cc);
    complete = λ good unrisen to_out to_err. absurd (other good);
    quiet = λ e. kept;
  }

  of_unread : (name : List ℕ) → words.NamesFile name → IsUnread files name → Keeps out.before out.after → HasCauses words files out err ReadFault
  of_unread name named is kept = record {
    bad_words = λ e. absurd (cc);
    helped = λ e. absurd (cc);
    read_fault = λ e. is.rose;
    not_firm = λ e. (name, named, is.not_firm);
    write_fault = λ e. absurd (cc);
    complete = λ good unrisen to_out to_err. absurd (unrisen is.rose);
    quiet = λ e. kept;
  }

  -- the causes of one answer are those of an equal one
  carried : (due answer : Status) → answer ≡ due → HasCauses words files out err due → HasCauses words files out err answer
  carried due answer same causes = let P : Status → Type 0 = HasCauses words files out err in subst P (sym same) causes

  -- a line went to the error output, or that failed
  to_errors : (due answer : Status) (bytes : List ℕ) → Went due WriteFault answer err bytes → HasCauses words files out err due
      → HasCauses words files out err answer
  to_errors due answer bytes (inl went) causes = carried due answer went.0 causes
  to_errors due answer bytes (inr fault) causes = carried WriteFault answer fault.0 (of_fault (inr fault.1.cause))

  to_output : (due answer : Status) (bytes : List ℕ) → Went due WriteFault answer out bytes → HasCauses words files out err due
      → HasCauses words files out err answer
  to_output due answer bytes (inl went) causes = carried due answer went.0 causes
  to_output due answer bytes (inr fault) causes = carried WriteFault answer fault.0 (of_fault (inl fault.1.cause))

  of_text : (due : Status) → HasText due → HasCauses words files out err due
  of_text due (inl clean) = carried Clean due clean (of_finding Clean refl (λ e. absurd (let wrong : true ≡ false = e in (cc))))
  of_text due (inr reports) = carried Reports due reports (of_finding Reports refl (λ e. absurd (let wrong : true ≡ false = e in (cc))))

  causes_of : IsSound words → (due : Due) (answer : Status) → Owed words files due → IsAnswered due answer out err
      → HasCauses words files out err answer
  causes_of sound due answer (help bytes asked) (went, kept) = to_output Helped answer bytes went (of_help asked (sound.no_help asked))
  causes_of sound due answer (bad bytes wrong) (went, kept) = to_errors BadWords answer bytes went (of_bad_words wrong (sound.no_fault wrong) kept)
  causes_of sound due answer (text s bytes has) (went, kept) = to_output s answer bytes went (of_text s has)
  causes_of sound due answer (refusal bytes) (went, kept) = to_errors Refused answer bytes went (of_finding Refused refl (λ e. kept))
  causes_of sound due answer (unread bytes name named is) (went, kept) = to_errors ReadFault answer bytes went (of_unread name named is kept)

  kept_by : (IsDue : Due → Type 0) (answer : Status) → Answers IsDue answer out err → HasCauses words files out err answer
      → Promises IsDue words files out err answer
  kept_by IsDue answer given causes = record {
    answers = given;
    bad_words = causes.bad_words;
    helped = causes.helped;
    read_fault = causes.read_fault;
    not_firm = causes.not_firm;
    write_fault = causes.write_fault;
    complete = causes.complete;
    quiet = causes.quiet;
  }

  -- an answer that is due was given
  pub promised : (IsDue : Due → Type 0) → IsSound words → (due : Due) (answer : Status) → IsDue due → Owed words files due
      → IsAnswered due answer out err → Promises IsDue words files out err answer
  promised IsDue sound due answer is owed given =
      kept_by IsDue answer (inr (due, is, given)) (causes_of sound due answer owed given)

-- memory was refused, and nothing was written
pub untouched : (words : Wording) (files : Outside) (IsDue : Due → Type 0) (m n : ℕ) (t u : Option (List ℕ))
    → Promises IsDue words files (change m m t t) (change n n u u) Memory
untouched words files IsDue m n t u =
    kept_by words files (change m m t t) (change n n u u) IsDue Memory (inl (refl, Keeps-itself t, Keeps-itself u))
    (of_finding words files (change m m t t) (change n n u u) Memory refl (λ e. Keeps-itself t))
