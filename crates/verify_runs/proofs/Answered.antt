-- An answer that is due, given: the parts of a run put together, and the cause of each answer.
use Rattle.std.proofs.Common.{◌≡◌, ◌⊎◌, ℕ, true, false, List, [], Option, Some, None, refl, sym, subst, inl}
use Rattle.std.proofs.Common.{inr, ⊎_elim}
use Rattle.sc_base.specs.Causes.{Rose}
use Rattle.sc_base.specs.Held.{is_named}
use Rattle.sc_base.specs.Taken.{SinkChange, Keeps, Went}
use Rattle.verify_runs.specs.declared.finding.Finding.{Finding}
use Rattle.verify_runs.specs.declared.finding.Finding.TheVariants as found
use Rattle.verify_runs.specs.declared.verified.Verified.{Verified}
use Rattle.verify_runs.specs.declared.verified.Verified.TheVariants.{Accepted, Rejected, Refused, BadWords}
use Rattle.verify_runs.specs.declared.verified.Verified.TheVariants.{ReadFault, WriteFault, Memory, Helped}
use Rattle.verify_runs.specs.Words.{faults, AskForHelp, HaveFault, Name}
use Rattle.verify_runs.specs.Lines.{line_of}
use Rattle.verify_runs.specs.Answer.{Due, ToOutput, ToErrors, Source, due_for, IsDue, helped, bad_words}
use Rattle.verify_runs.specs.Answer.{unread, read}
use Rattle.verify_runs.specs.Answer.{IsAnswered, Answers, has_output, is_finding}

-- a sink that nothing was written to has what it had
pub Keeps-itself : (taken : Option (List ℕ)) → Keeps taken taken
Keeps-itself None = tt
Keeps-itself (Some bytes) = refl

-- a line that is due, and goes to the error output
pub to_errors : (words : List (List ℕ)) (source : Source) (due answer : Verified) (line bytes : List ℕ) (out err : SinkChange)
    → IsDue words source (ToErrors due line) → bytes ≡ line → Went due WriteFault answer err bytes → Keeps out.before out.after
    → Answers words source answer out err
to_errors words source due answer line bytes out err is same went kept =
    let P : List ℕ → Type 0 = λ b. Went due WriteFault answer err b in
    inr (ToErrors due line, is, (subst P same went, kept))

-- and one that goes to the output
pub to_output : (words : List (List ℕ)) (source : Source) (due answer : Verified) (text bytes : List ℕ) (out err : SinkChange)
    → IsDue words source (ToOutput due text) → bytes ≡ text → Went due WriteFault answer out bytes → Keeps err.before err.after
    → Answers words source answer out err
to_output words source due answer text bytes out err is same went kept =
    let P : List ℕ → Type 0 = λ b. Went due WriteFault answer out b in
    inr (ToOutput due text, is, (subst P same went, kept))

-- what is due for a text of another form
pub malformed_given : (name text : List ℕ) (finding : Finding) (line : ℕ) (answer : Verified) (out err : SinkChange) → finding ≡ found.Malformed line
    → text ≡ line_of name finding → Went Refused WriteFault answer err text → Keeps out.before out.after
    → IsAnswered (due_for name finding) answer out err
malformed_given name text finding line answer out err is same went kept =
    let P : Finding → Type 0 = λ f. text ≡ line_of name f → IsAnswered (due_for name f) answer out err in
    let Q : List ℕ → Type 0 = λ b. Went Refused WriteFault answer err b in
    subst P (sym is) (λ (e : text ≡ line_of name (found.Malformed line)). (subst Q e went, kept)) same

-- ---- the cause of each answer

-- what is known of a run by its answer
pub record HasCauses (words : List (List ℕ)) (source : Source) (answer : Verified) (out err : SinkChange) : Type 0 where
  pub bad_words : answer ≡ BadWords → HaveFault words
  pub helped : answer ≡ Helped → AskForHelp words
  pub read_fault : answer ≡ ReadFault → Rose source.faults_before source.faults_after
  pub not_firm : answer ≡ ReadFault → (name : List ℕ) × Name words name × (is_named name source.firm ≡ false)
  pub write_fault : answer ≡ WriteFault → Rose out.faults_before out.faults_after ⊎ Rose err.faults_before err.faults_after
  pub complete : faults words ≡ [] → ¬ Rose source.faults_before source.faults_after → ¬ Rose out.faults_before out.faults_after
      → ¬ Rose err.faults_before err.faults_after → is_finding answer ≡ true
  pub quiet : has_output answer ≡ false → Keeps out.before out.after

-- of an answer that has no cause of its own
pub of_finding : (words : List (List ℕ)) (source : Source) (answer : Verified) (out err : SinkChange) → is_finding answer ≡ true
    → (has_output answer ≡ false → Keeps out.before out.after) → HasCauses words source answer out err
of_finding words source answer out err is kept = record {
  bad_words = λ e. absurd (let wrong : false ≡ true = rw e at is in (cc));
  helped = λ e. absurd (let wrong : false ≡ true = rw e at is in (cc));
  read_fault = λ e. absurd (let wrong : false ≡ true = rw e at is in (cc));
  not_firm = λ e. absurd (let wrong : false ≡ true = rw e at is in (cc));
  write_fault = λ e. absurd (let wrong : false ≡ true = rw e at is in (cc));
  complete = λ good files to_out to_err. is;
  quiet = kept;
}

of_fault : (words : List (List ℕ)) (source : Source) (out err : SinkChange)
    → Rose out.faults_before out.faults_after ⊎ Rose err.faults_before err.faults_after → HasCauses words source WriteFault out err
of_fault words source out err rose = record {
  bad_words = λ e. absurd (cc);
  helped = λ e. absurd (cc);
  read_fault = λ e. absurd (cc);
  not_firm = λ e. absurd (cc);
  write_fault = λ e. rose;
  complete = λ good files to_out to_err. absurd (⊎_elim to_out to_err rose);
  quiet = λ e. absurd (let wrong : true ≡ false = e in (cc));
}

of_help : (words : List (List ℕ)) (source : Source) (out err : SinkChange) → AskForHelp words → HasCauses words source Helped out err
of_help words source out err help = record {
  bad_words = λ e. absurd (cc);
  helped = λ e. help;
  read_fault = λ e. absurd (cc);
  not_firm = λ e. absurd (cc);
  write_fault = λ e. absurd (cc);
  complete = λ good files to_out to_err. ⊎_elim (λ h. absurd (rw good at h)) (λ h. absurd (rw good at h)) help;
  quiet = λ e. absurd (let wrong : true ≡ false = e in (cc));
}

of_bad_words : (words : List (List ℕ)) (source : Source) (out err : SinkChange) → HaveFault words → Keeps out.before out.after
    → HasCauses words source BadWords out err
of_bad_words words source out err fault kept = record {
  bad_words = λ e. fault;
  helped = λ e. absurd (cc);
  read_fault = λ e. absurd (cc);
  not_firm = λ e. absurd (cc);
  write_fault = λ e. absurd (cc);
  complete = λ good files to_out to_err. absurd (rw good at fault.1);
  quiet = λ e. kept;
}

of_unread : (words : List (List ℕ)) (source : Source) (name : List ℕ) (out err : SinkChange) → Name words name
    → Rose source.faults_before source.faults_after → is_named name source.firm ≡ false → Keeps out.before out.after
    → HasCauses words source ReadFault out err
of_unread words source name out err named rose unnamed kept = record {
  bad_words = λ e. absurd (cc);
  helped = λ e. absurd (cc);
  read_fault = λ e. rose;
  not_firm = λ e. (name, named, unnamed);
  write_fault = λ e. absurd (cc);
  complete = λ good files to_out to_err. absurd (files rose);
  quiet = λ e. kept;
}

-- the causes of one answer are those of an equal one
carried : (words : List (List ℕ)) (source : Source) (due answer : Verified) (out err : SinkChange) → answer ≡ due
    → HasCauses words source due out err → HasCauses words source answer out err
carried words source due answer out err same causes =
    let P : Verified → Type 0 = λ a. HasCauses words source a out err in subst P (sym same) causes

-- a line went to the error output, or that failed
went_to_errors : (words : List (List ℕ)) (source : Source) (due answer : Verified) (bytes : List ℕ) (out err : SinkChange)
    → Went due WriteFault answer err bytes → HasCauses words source due out err → HasCauses words source answer out err
went_to_errors words source due answer bytes out err (inl went) causes = carried words source due answer out err went.0 causes
went_to_errors words source due answer bytes out err (inr fault) causes =
    carried words source WriteFault answer out err fault.0 (of_fault words source out err (inr fault.1.cause))

went_to_output : (words : List (List ℕ)) (source : Source) (due answer : Verified) (bytes : List ℕ) (out err : SinkChange)
    → Went due WriteFault answer out bytes → HasCauses words source due out err → HasCauses words source answer out err
went_to_output words source due answer bytes out err (inl went) causes = carried words source due answer out err went.0 causes
went_to_output words source due answer bytes out err (inr fault) causes =
    carried words source WriteFault answer out err fault.0 (of_fault words source out err (inl fault.1.cause))

-- of what is due for a finding
of_due_for : (words : List (List ℕ)) (source : Source) (name : List ℕ) (finding : Finding) (answer : Verified) (out err : SinkChange)
    → IsAnswered (due_for name finding) answer out err → HasCauses words source answer out err
of_due_for words source name found.TooLong answer out err (went, kept) =
    went_to_errors words source Refused answer _ out err went (of_finding words source Refused out err refl (λ e. kept))
of_due_for words source name (found.Malformed line) answer out err (went, kept) =
    went_to_errors words source Refused answer _ out err went (of_finding words source Refused out err refl (λ e. kept))
of_due_for words source name (found.Accepted clauses steps) answer out err (went, kept) =
    went_to_output words source Accepted answer _ out err went
    (of_finding words source Accepted out err refl (λ e. absurd (let wrong : true ≡ false = e in (cc))))
of_due_for words source name (found.Rejected step) answer out err (went, kept) =
    went_to_output words source Rejected answer _ out err went
    (of_finding words source Rejected out err refl (λ e. absurd (let wrong : true ≡ false = e in (cc))))

of_due : (words : List (List ℕ)) (source : Source) (due : Due) (answer : Verified) (out err : SinkChange) → IsDue words source due
    → IsAnswered due answer out err → HasCauses words source answer out err
of_due words source due answer out err (helped bytes help) (went, kept) =
    went_to_output words source Helped answer bytes out err went (of_help words source out err help)
of_due words source due answer out err (bad_words bytes fault) (went, kept) =
    went_to_errors words source BadWords answer bytes out err went (of_bad_words words source out err fault kept)
of_due words source due answer out err (unread name named rose unnamed) (went, kept) =
    went_to_errors words source ReadFault answer _ out err went (of_unread words source name out err named rose unnamed kept)
of_due words source due answer out err (read name bytes finding named is one) given = of_due_for words source name finding answer out err given

-- the causes of an answer
pub causes : (words : List (List ℕ)) (source : Source) (answer : Verified) (out err : SinkChange) → Answers words source answer out err
    → HasCauses words source answer out err
causes words source answer out err (inl memory) =
    carried words source Memory answer out err memory.0 (of_finding words source Memory out err refl (λ e. memory.1))
causes words source answer out err (inr given) = of_due words source given.0 answer out err given.1 given.2
