-- A run has one row of a subject at most.
use Rattle.std.proofs.Common.{◌≡◌, ◌∙◌, ℕ, true, refl, sym, ap, ◌⊎◌, inl, inr}
use Rattle.std.specs.Prelude.{◌&&◌, ◌||◌, nat_eq, Result, Ok, Err}
use Rattle.std.proofs.lemmas.Bool.{and_parts, and_from, or_cases, or_left, or_right, eqb-true, eq-eqb, true≢false, false≢true}
use Rattle.run_store.specs.Concrete.{Cell}
use Rattle.sum_rows.specs.declared.row.Row.{Row}
use Rattle.sum_rows.specs.declared.row.State.{State}
use Rattle.sum_rows.specs.declared.row.State.TheVariants as state
use Rattle.sum_rows.specs.declared.row.Gives.{Gives}
use Rattle.sum_rows.specs.declared.row.Gives.TheVariants as gives
use Rattle.sc_world.specs.Known.{row, same_state, same_gives, same_row}
use Rattle.sc_world.specs.World.{Ended, is_true}
use Rattle.sc_world.specs.Paths.{Texts}
use Rattle.sc_world.specs.Shows.{Over, says, exits, exits_with, errs_at, is_met, given, result, exit_row, state_before, state_now, param_cell, param_object, fate, out_fate}
use Rattle.left_out.specs.LeftOut.{has_row_of, row_query}
use Rattle.left_out.specs.declared.misses.Subject.{Subject}
use Rattle.left_out.specs.declared.misses.Subject.TheVariants as subject

-- ---- rows that are the same

state_is : (a b : State) → same_state a b ≡ true → a ≡ b
state_is state.Nil state.Nil h = refl
state_is (state.At m) (state.At n) h = ap (λ k. state.At k) (eqb-true m n h)
state_is state.Bad state.Bad h = refl
state_is state.Held state.Held h = refl
state_is state.Escaped state.Escaped h = refl
state_is state.Freed state.Freed h = refl
state_is state.Null state.Null h = refl
state_is state.Fresh state.Fresh h = refl
state_is state.Other state.Other h = refl
state_is state.Same state.Same h = refl
state_is _ _ h = absurd (true≢false (sym h))

gives_is : (a b : Gives) → same_gives a b ≡ true → a ≡ b
gives_is gives.Nothing gives.Nothing h = refl
gives_is gives.Zero gives.Zero h = refl
gives_is gives.NotZero gives.NotZero h = refl
gives_is _ _ h = absurd (true≢false (sym h))

row_is : (a b : Row) → same_row a b ≡ true → a ≡ b
row_is a b h =
    let one = and_parts (nat_eq a.given b.given) (same_state a.before b.before && (same_gives a.result b.result && same_state a.after b.after)) h in
    let two = and_parts (same_state a.before b.before) (same_gives a.result b.result && same_state a.after b.after) one.1 in
    let three = and_parts (same_gives a.result b.result) (same_state a.after b.after) two.1 in
    let given_same = eqb-true a.given b.given one.0 in
    let before_same = state_is a.before b.before two.0 in
    let result_same = gives_is a.result b.result three.0 in
    let after_same = state_is a.after b.after three.1 in
    let same : row a.given a.before a.result a.after ≡ row b.given b.before b.result b.after = cc in
    same

state_same : (a : State) → same_state a a ≡ true
state_same state.Nil = refl
state_same (state.At m) = eq-eqb m m refl
state_same state.Bad = refl
state_same state.Held = refl
state_same state.Escaped = refl
state_same state.Freed = refl
state_same state.Null = refl
state_same state.Fresh = refl
state_same state.Other = refl
state_same state.Same = refl

gives_same : (a : Gives) → same_gives a a ≡ true
gives_same gives.Nothing = refl
gives_same gives.Zero = refl
gives_same gives.NotZero = refl

row_same : (r : Row) → same_row r r ≡ true
row_same r =
    and_from (nat_eq r.given r.given) (same_state r.before r.before && (same_gives r.result r.result && same_state r.after r.after)) (eq-eqb r.given r.given refl)
    (and_from (same_state r.before r.before) (same_gives r.result r.result && same_state r.after r.after) (state_same r.before)
    (and_from (same_gives r.result r.result) (same_state r.after r.after) (gives_same r.result) (state_same r.after)))

-- ---- a run does not come to its end and err

not_both : (e : Result Cell Ended) (at : ℕ) → exits_with e ≡ true → errs_at e at ≡ true → ⊥
not_both (Ok c) at h k = false≢true k
not_both (Err e) at h k = false≢true h

-- ---- the row that a run has

end_of : Over → ℕ → Row
end_of o at = row (given o) (state_before o at) (result o) (state_now o at)

error_of : Over → ℕ → Row
error_of o at = row (given o) (state_before o at) gives.Nothing state.Bad

param_row : Over → ℕ → Row
param_row o n = row (given o) state.Nil (result o) (fate o (param_object o n))

out_row : Over → ℕ → Row
out_row o n = row (given o) state.Nil (result o) (out_fate o (param_object o n))

module _ (x : Texts) (o : Over) where
  lock_parts : (at : ℕ) (r : Row) → says x o (row_query (subject.Lock at) r) ≡ true
      → (is_met o at ≡ true) × (((exits o && same_row r (end_of o at)) ≡ true) ⊎ ((errs_at o.ended at && same_row r (error_of o at)) ≡ true))
  unfolding end_of error_of
  lock_parts at r h =
      let both = and_parts (is_met o at) ((exits o && same_row r (end_of o at)) || (errs_at o.ended at && same_row r (error_of o at))) h in
      (both.0, or_cases (exits o && same_row r (end_of o at)) (errs_at o.ended at && same_row r (error_of o at)) both.1)

  pub some : (t : Subject) (r : Row) → says x o (row_query t r) ≡ true → has_row_of o t ≡ true
  unfolding param_row out_row
  some subject.Exit r h = (and_parts (exits o) (same_row r (exit_row o)) h).0
  some (subject.Lock at) r h =
      let parts = lock_parts at r h in
      and_from (is_met o at) (exits o || errs_at o.ended at) parts.0
      (elim (parts.1) [
        | inl k ↦ or_left (exits o) (errs_at o.ended at) (and_parts (exits o) (same_row r (end_of o at)) k).0
        | inr k ↦ or_right (exits o) (errs_at o.ended at) (and_parts (errs_at o.ended at) (same_row r (error_of o at)) k).0
      ])
  some (subject.Param n) r h =
      let both = and_parts (exits o) (is_true (param_cell o n) && same_row r (param_row o n)) h in
      and_from (exits o) (is_true (param_cell o n)) both.0 (and_parts (is_true (param_cell o n)) (same_row r (param_row o n)) both.1).0
  some (subject.Out n) r h =
      let both = and_parts (exits o) (is_true (param_cell o n) && same_row r (out_row o n)) h in
      and_from (exits o) (is_true (param_cell o n)) both.0 (and_parts (is_true (param_cell o n)) (same_row r (out_row o n)) both.1).0

  is_param : (n : ℕ) (r : Row) → says x o (row_query (subject.Param n) r) ≡ true → r ≡ param_row o n
  unfolding param_row
  is_param n r h =
      let both = and_parts (exits o) (is_true (param_cell o n) && same_row r (param_row o n)) h in
      row_is r (param_row o n) (and_parts (is_true (param_cell o n)) (same_row r (param_row o n)) both.1).1

  is_out : (n : ℕ) (r : Row) → says x o (row_query (subject.Out n) r) ≡ true → r ≡ out_row o n
  unfolding out_row
  is_out n r h =
      let both = and_parts (exits o) (is_true (param_cell o n) && same_row r (out_row o n)) h in
      row_is r (out_row o n) (and_parts (is_true (param_cell o n)) (same_row r (out_row o n)) both.1).1

  end_is : (at : ℕ) (r : Row) → (exits o && same_row r (end_of o at)) ≡ true → r ≡ end_of o at
  end_is at r k = row_is r (end_of o at) (and_parts (exits o) (same_row r (end_of o at)) k).1

  error_is : (at : ℕ) (r : Row) → (errs_at o.ended at && same_row r (error_of o at)) ≡ true → r ≡ error_of o at
  error_is at r k = row_is r (error_of o at) (and_parts (errs_at o.ended at) (same_row r (error_of o at)) k).1

  never : (at : ℕ) (r q : Row) → (exits o && same_row r (end_of o at)) ≡ true → (errs_at o.ended at && same_row q (error_of o at)) ≡ true → ⊥
  never at r q h k =
      not_both o.ended at (and_parts (exits o) (same_row r (end_of o at)) h).0 (and_parts (errs_at o.ended at) (same_row q (error_of o at)) k).0

  one_lock : (at : ℕ) (r q : Row)
      → ((exits o && same_row r (end_of o at)) ≡ true) ⊎ ((errs_at o.ended at && same_row r (error_of o at)) ≡ true)
      → ((exits o && same_row q (end_of o at)) ≡ true) ⊎ ((errs_at o.ended at && same_row q (error_of o at)) ≡ true) → r ≡ q
  one_lock at r q (inl h) (inl k) = end_is at r h ∙ sym (end_is at q k)
  one_lock at r q (inl h) (inr k) = absurd (never at r q h k)
  one_lock at r q (inr h) (inl k) = absurd (never at q r k h)
  one_lock at r q (inr h) (inr k) = error_is at r h ∙ sym (error_is at q k)

  pub one : (t : Subject) (r q : Row) → says x o (row_query t r) ≡ true → says x o (row_query t q) ≡ true → r ≡ q
  one subject.Exit r q h k =
      row_is r (exit_row o) (and_parts (exits o) (same_row r (exit_row o)) h).1
      ∙ sym (row_is q (exit_row o) (and_parts (exits o) (same_row q (exit_row o)) k).1)
  one (subject.Lock at) r q h k = one_lock at r q (lock_parts at r h).1 (lock_parts at q k).1
  one (subject.Param n) r q h k = is_param n r h ∙ sym (is_param n q k)
  one (subject.Out n) r q h k = is_out n r h ∙ sym (is_out n q k)

  has_lock : (at : ℕ) → is_met o at ≡ true → (exits o ≡ true) ⊎ (errs_at o.ended at ≡ true)
      → (r : Row) × (says x o (row_query (subject.Lock at) r) ≡ true)
  unfolding end_of error_of
  has_lock at met (inl h) = (
    end_of o at,
    and_from (is_met o at) ((exits o && same_row (end_of o at) (end_of o at)) || (errs_at o.ended at && same_row (end_of o at) (error_of o at))) met
        (or_left (exits o && same_row (end_of o at) (end_of o at)) (errs_at o.ended at && same_row (end_of o at) (error_of o at))
        (and_from (exits o) (same_row (end_of o at) (end_of o at)) h (row_same (end_of o at)))),
  )
  has_lock at met (inr h) = (
    error_of o at,
    and_from (is_met o at) ((exits o && same_row (error_of o at) (end_of o at)) || (errs_at o.ended at && same_row (error_of o at) (error_of o at))) met
        (or_right (exits o && same_row (error_of o at) (end_of o at)) (errs_at o.ended at && same_row (error_of o at) (error_of o at))
        (and_from (errs_at o.ended at) (same_row (error_of o at) (error_of o at)) h (row_same (error_of o at)))),
  )

  pub has : (t : Subject) → has_row_of o t ≡ true → (r : Row) × (says x o (row_query t r) ≡ true)
  unfolding param_row out_row
  has subject.Exit h = (exit_row o, and_from (exits o) (same_row (exit_row o) (exit_row o)) h (row_same (exit_row o)))
  has (subject.Lock at) h =
      let both = and_parts (is_met o at) (exits o || errs_at o.ended at) h in
      has_lock at both.0 (or_cases (exits o) (errs_at o.ended at) both.1)
  has (subject.Param n) h =
      let both = and_parts (exits o) (is_true (param_cell o n)) h in (
        param_row o n,
        and_from (exits o) (is_true (param_cell o n) && same_row (param_row o n) (param_row o n)) both.0
            (and_from (is_true (param_cell o n)) (same_row (param_row o n) (param_row o n)) both.1 (row_same (param_row o n))),
      )
  has (subject.Out n) h =
      let both = and_parts (exits o) (is_true (param_cell o n)) h in (
        out_row o n,
        and_from (exits o) (is_true (param_cell o n) && same_row (out_row o n) (out_row o n)) both.0
            (and_from (is_true (param_cell o n)) (same_row (out_row o n) (out_row o n)) both.1 (row_same (out_row o n))),
      )
