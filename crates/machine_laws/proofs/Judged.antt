-- Verdicts, with and without the functions that try to lock.
use Rattle.std.proofs.Common.{◌≡◌, List, refl, ◌∙◌}
use Rattle.std.specs.Prelude.{Bool, true, false, Option, Some, None, Ok, Err, Result}
use Rattle.sc_base.specs.declared.skip.LimitKind.{LimitKind}
use Rattle.sc_world.specs.Source.{Source}
use Rattle.sc_world.specs.Layout.{Layout}
use Rattle.sc_world.specs.Exec.{run}
use Rattle.sc_world.specs.Paths.{Texts}
use Rattle.sc_world.specs.Places.{places}
use Rattle.sc_world.specs.Shows.{Query, says}
use Rattle.sc_world.specs.Choices.{first_choice}
use Rattle.sc_world.specs.Verdict.{over, shows, first_run, is_there, shown_over, shown_by, answers, done_with, verdict_with, verdict_of}
use Rattle.machine_laws.specs.Tries.{StatementCallsNoTry}
use Rattle.machine_laws.proofs.Names.{with_tries}
use Rattle.machine_laws.proofs.Laid.{places_same}
use Rattle.machine_laws.proofs.Executed.{run_same}
use Rattle.machine_laws.proofs.Ambiguous.{done_same}
use Rattle.machine_laws.proofs.Said.{says_same}

module _ (s : Source) where
  abbrev one : Source
  one = with_tries s true

  abbrev other : Source
  other = with_tries s false

  pub shows_same : (x : Texts) (q : Query) (c : List Bool) → shows one x q c ≡ shows other x q c
  shows_same x q c = (λ i. says x (over one x.layout c (run_same s x.layout c i)) q)
      ∙ says_same s x.layout c (run other x.layout c).0 (run other x.layout c).1 x q

  first_run_same : (x : Texts) (q : Query) → first_run one x q ≡ first_run other x q
  first_run_same x q = λ i. first_choice x.layout.bits (λ c. shows_same x q c i)

  shown_same : (x : Texts) (c : Option (List Bool)) → shown_by one x c ≡ shown_by other x c
  shown_same x None = refl
  shown_same x (Some c) = λ i. shown_over x (over one x.layout c (run_same s x.layout c i))

  pub answers_same : (x : Texts) → answers one x ≡ answers other x
  answers_same x = λ i. record {
    some = λ q. is_there (first_run_same x q i);
    shown = λ q. ((λ j. shown_by one x (first_run_same x q j)) ∙ shown_same x (first_run other x q)) i;
  }

  with_same : (x : Layout → Texts) (r : Result Layout LimitKind) → verdict_with one x r ≡ verdict_with other x r
  with_same x (Err e) = refl
  with_same x (Ok p) = (λ i. done_with one (x p) (answers_same (x p) i)) ∙ done_same s (x p) (answers other (x p))

  pub verdict_same : (x : Layout → Texts) → StatementCallsNoTry s.names s.body → verdict_of one x ≡ verdict_of other x
  verdict_same x c = (λ i. verdict_with one x (places_same s c i)) ∙ with_same x (places other)
