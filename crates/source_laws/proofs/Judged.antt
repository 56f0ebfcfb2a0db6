-- Verdicts, with names that come later and without them.
use Rattle.std.proofs.Common.{◌≡◌, ℕ, List, length, refl, ◌∙◌}
use Rattle.std.specs.Prelude.{Bool, bytes_eq, Option, Some, None, Ok, Err, Result}
use Rattle.sc_base.specs.declared.pos.NameId.{NameId}
use Rattle.sc_base.specs.declared.skip.LimitKind.{LimitKind}
use Rattle.run_store.specs.Concrete.{Cell}
use Rattle.sc_world.specs.Source.{Source}
use Rattle.sc_world.specs.Gather.{gather_function, nothing_found}
use Rattle.sc_world.specs.Layout.{Layout}
use Rattle.sc_world.specs.World.{Ended, Error, Inner}
use Rattle.sc_world.specs.Exec.{run}
use Rattle.sc_world.specs.Paths.{Texts, text_at}
use Rattle.sc_world.specs.Places.{places}
use Rattle.sc_world.specs.Shows.{Over, Query, Exits, Touches, Locks, Changes, Params, Sets, Outs, Writes, EndsAt, Errs, Leaks, says, text_is, ends_inner}
use Rattle.sc_world.specs.Choices.{first_choice}
use Rattle.sc_world.specs.Verdict.{over, shows, first_run, is_there, error_text, shown_over, shown_by, answers, done_with, verdict_with, verdict_of}
use Rattle.layout_laws.specs.Origins.{IsLaidFor, found_in}
use Rattle.source_laws.specs.Named.{Tables, with_tables, IsFront, SignaturesAgree, texts_with, ReadsBelow}
use Rattle.source_laws.proofs.Laid.{places_same}
use Rattle.source_laws.proofs.Executed.{run_same}
use Rattle.source_laws.proofs.Ambiguous.{done_same}
use Rattle.source_laws.proofs.Said.{says_same}
use Rattle.source_laws.proofs.Texts.{each_below, texts_same}

module _ (old new : Tables) (s : Source) (params globals locals : List NameId) (p : Layout)
    (texts : (at : ℕ) → text_at (texts_with params globals locals old.names p) at ≡ text_at (texts_with params globals locals new.names p) at) where
  abbrev one : Source
  one = with_tables s old

  abbrev other : Source
  other = with_tables s new

  abbrev before : Texts
  before = texts_with params globals locals old.names p

  abbrev after : Texts
  after = texts_with params globals locals new.names p

  text_is_same : (t : List ℕ) (at : Option ℕ) → text_is before t at ≡ text_is after t at
  text_is_same t None = refl
  text_is_same t (Some at) = λ i. bytes_eq (texts at i) t

  says_text : (o : Over) (q : Query) → says before o q ≡ says after o q
  says_text o (Errs t) = text_is_same t (ends_inner o.ended)
  says_text o (Exits a) = refl
  says_text o (Touches at) = refl
  says_text o (Locks at a) = refl
  says_text o (Changes n) = refl
  says_text o (Params n a) = refl
  says_text o (Sets n) = refl
  says_text o (Outs n a) = refl
  says_text o (Writes at) = refl
  says_text o (EndsAt at) = refl
  says_text o (Leaks at) = refl

  error_text_same : (r : Result Cell Ended) → error_text before r ≡ error_text after r
  error_text_same (Err (Error at)) = texts at
  error_text_same (Err (Inner at)) = texts at
  error_text_same _ = refl

  shows_same : (q : Query) (c : List Bool) → shows one before q c ≡ shows other after q c
  shows_same q c = (λ i. says before (over one p c (run_same old new s p c i)) q)
      ∙ (says_same old new s p c (run other p c).0 (run other p c).1 before q
      ∙ says_text (over other p c (run other p c)) q)

  first_run_same : (q : Query) → first_run one before q ≡ first_run other after q
  first_run_same q = λ i. first_choice p.bits (λ c. shows_same q c i)

  shown_same : (c : Option (List Bool)) → shown_by one before c ≡ shown_by other after c
  shown_same None = refl
  shown_same (Some c) = (λ i. shown_over before (over one p c (run_same old new s p c i)))
      ∙ (λ i. record { choice = c; trace = (run other p c).1.trace; text = error_text_same (run other p c).0 i })

  pub answers_same : answers one before ≡ answers other after
  answers_same = λ i. record {
    some = λ q. is_there (first_run_same q i);
    shown = λ q. ((λ j. shown_by one before (first_run_same q j)) ∙ shown_same (first_run other after q)) i;
  }

  pub judged_same : done_with one before (answers one before) ≡ done_with other after (answers other after)
  judged_same = (λ i. done_with one before (answers_same i)) ∙ done_same old new s params globals locals p texts (answers other after)

-- what a law on layouts says
abbrev pub AreLaid : Type 0
AreLaid = (s : Source) (p : Layout) → places s ≡ Ok p → IsLaidFor s (found_in (gather_function s nothing_found)) p.locations

module _ (laid : AreLaid) (old new : Tables) (front : IsFront old.names new.names) (s : Source) (agree : SignaturesAgree old new s)
    (params globals locals : List NameId) (below : ReadsBelow (length old.names) s params globals locals) where
  abbrev first : Source
  first = with_tables s old

  abbrev second : Source
  second = with_tables s new

  with_same : (r : Result Layout LimitKind) → places second ≡ r
      → verdict_with first (texts_with params globals locals old.names) r ≡ verdict_with second (texts_with params globals locals new.names) r
  with_same (Err e) is = refl
  with_same (Ok p) is =
      judged_same old new s params globals locals p
      (texts_same old.names new.names front params globals locals below.some below.params_below below.globals_below below.locals_below p
      (each_below (length old.names) second (found_in (gather_function second nothing_found)) below.members p (laid second p is)))

  pub verdict_same : verdict_of first (texts_with params globals locals old.names) ≡ verdict_of second (texts_with params globals locals new.names)
  verdict_same = (λ i. verdict_with first (texts_with params globals locals old.names) (places_same old new front s agree below.calls i))
      ∙ with_same (places second) refl
