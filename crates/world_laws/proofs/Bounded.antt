-- A run that is set aside answers no question.
use Rattle.std.proofs.Common.{◌≡◌, ℕ, Bool, true, ◌&&◌, ◌||◌, refl, sym, ap, ◌∙◌, ⊎_elim}
use Rattle.std.proofs.lemmas.Bool.{true≢false, and_parts, or_cases}
use Rattle.std.specs.Prelude.{Result, Ok, Err}
use Rattle.run_store.specs.Concrete.{Cell}
use Rattle.sc_world.specs.declared.run.Reason.{Reason}
use Rattle.sc_world.specs.World.{Ended, Error, Inner, Aside}
use Rattle.sc_world.specs.Paths.{Texts}
use Rattle.sc_world.specs.Shows.{Over, Query, Exits, Touches, Locks, Changes, Params, Sets, Outs, Writes, EndsAt, Errs, Leaks, says, exits, exits_with, errs_at, is_rowed, ends_inner, is_it, text_is}
use Rattle.world_laws.specs.Runs.{IsBounded}

module _ (x : Texts) (o : Over) (r : Reason) (aside : o.ended ≡ Err (Aside r)) where
  no_exit : (b : Bool) → exits o && b ≡ true → ⊥
  no_exit b h = true≢false (sym (and_parts (exits o) b h).0 ∙ ap exits_with aside)

  no_rows : (b : Bool) → is_rowed o.ended && b ≡ true → ⊥
  no_rows b h = true≢false (sym (and_parts (is_rowed o.ended) b h).0 ∙ ap is_rowed aside)

  no_error : (at : ℕ) (b : Bool) → errs_at o.ended at && b ≡ true → ⊥
  no_error at b h = true≢false (sym (and_parts (errs_at o.ended at) b h).0 ∙ ap (λ e. errs_at e at) aside)

  no_lock : (at : ℕ) (m a b : Bool) → m && ((exits o && a) || (errs_at o.ended at && b)) ≡ true → ⊥
  no_lock at m a b h =
      ⊎_elim (no_exit a) (no_error at b)
      (or_cases (exits o && a) (errs_at o.ended at && b) (and_parts m ((exits o && a) || (errs_at o.ended at && b)) h).1)

  pub no_answer : (q : Query) → says x o q ≡ true → ⊥
  no_answer (Exits row) h = no_exit _ h
  no_answer (Touches at) h = no_rows _ h
  no_answer (Locks at row) h = no_lock at _ _ _ h
  no_answer (Changes n) h = no_exit _ h
  no_answer (Params n row) h = no_exit _ h
  no_answer (Sets n) h = no_exit _ h
  no_answer (Outs n row) h = no_exit _ h
  no_answer (Writes at) h = no_exit _ h
  no_answer (EndsAt at) h = true≢false (sym h ∙ ap (λ e. is_it at (ends_inner e)) aside)
  no_answer (Errs t) h = true≢false (sym h ∙ ap (λ e. text_is x t (ends_inner e)) aside)
  no_answer (Leaks p) h = no_exit _ h

bounded_as : (x : Texts) (o : Over) (q : Query) → says x o q ≡ true → (e : Result Cell Ended) → o.ended ≡ e → IsBounded e
bounded_as x o q h (Ok c) is = tt
bounded_as x o q h (Err (Error at)) is = tt
bounded_as x o q h (Err (Inner at)) is = tt
bounded_as x o q h (Err (Aside r)) is = no_answer x o r is q h

pub bounded : (x : Texts) (o : Over) (q : Query) → says x o q ≡ true → IsBounded o.ended
bounded x o q h = bounded_as x o q h o.ended refl
