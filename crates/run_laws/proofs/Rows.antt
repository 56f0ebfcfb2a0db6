-- Each row that a run has of a location which callers know is a candidate.
use Rattle.std.proofs.Common.{◌≡◌, ℕ, zero, suc, ◌+◌, ◌*◌, ◌^◌, ◌<◌, ◌&&◌, ◌||◌, Bool, true, false, List, [], ◌∷◌, ◌++◌, length, map, nat_eq, refl, sym, subst, ap, ◌∙◌, inl, inr, ⊎_elim, arith}
use Rattle.std.proofs.lemmas.Bool.{true≢false, and_parts, or_cases, eqb-true}
use Rattle.std.proofs.Math.Nat.{pow-suc}
use Rattle.std.proofs.lemmas.List.Elements.{Contains-append_left, Contains-append_right}
use Rattle.std.proofs.lemmas.List.FromFn.{length-range_with_len, get_or-range_with_len}
use Rattle.std.specs.Prelude.{Contains, slice_index_or}
use Rattle.std.specs.List.{flat_map, range_with_len}
use Rattle.fsm_spec.specs.Table.{IsWhole}
use Rattle.sum_rows.specs.declared.row.Row.{Row}
use Rattle.sum_rows.specs.declared.row.State.{State}
use Rattle.sum_rows.specs.declared.row.State.TheVariants as state
use Rattle.sum_rows.specs.declared.row.Gives.{Gives}
use Rattle.sum_rows.specs.declared.row.Gives.TheVariants as gives
use Rattle.run_store.specs.Concrete.{Cell, nth_cell}
use Rattle.sc_world.specs.Source.{Source}
use Rattle.sc_world.specs.Layout.{Layout, Location, location, is_outer, nowhere}
use Rattle.sc_world.specs.World.{number_of, digit, is_true, states, entry_state_at}
use Rattle.sc_world.specs.Exec.{run}
use Rattle.sc_world.specs.Known.{row, same_state, same_gives, same_row}
use Rattle.sc_world.specs.Paths.{Texts}
use Rattle.sc_world.specs.Shows.{Over, Locks, says, is_met, exits, errs_at, given, entry_params, bits_number, param_cell, result, state_before, state_now}
use Rattle.sc_world.specs.Verdict.{givens, machine_states, lock_candidates_from, lock_candidates, run_over}
use Rattle.run_laws.specs.Proper.{IsState, IsProper}
use Rattle.run_laws.proofs.Entry.{state_known}

-- Elements of lists.

first : {X : Type 0} (x : X) (xs : List X) → Contains (x ∷ xs) x
first x xs = (0, omega arith, refl)

later : {X : Type 0} (y : X) (xs : List X) (x : X) → Contains xs x → Contains (y ∷ xs) x
later y xs x (k, less, is) = (suc k, omega (arith, less), is)

mapped : {X Y : Type 0} (f : X → Y) (xs : List X) (x : X) → Contains xs x → Contains (map f xs) (f x)
mapped f [] x (k, less, is) = absurd (omega (arith, less))
mapped f (y ∷ ys) x (zero, less, is) = (0, omega arith, ap f is)
mapped f (y ∷ ys) x (suc k, less, is) = later (f y) (map f ys) (f x) (mapped f ys x (k, omega (arith, less), is))

flat : {X Y : Type 0} (f : X → List Y) (xs : List X) (x : X) (y : Y) → Contains xs x → Contains (f x) y → Contains (flat_map f xs) y
flat f [] x y (k, less, is) has = absurd (omega (arith, less))
flat f (z ∷ zs) x y (zero, less, is) has =
    Contains-append_left (f z) (flat_map f zs) y (subst (λ w. Contains (f w) y) (sym is) has)
flat f (z ∷ zs) x y (suc k, less, is) has =
    Contains-append_right (f z) (flat_map f zs) y (flat f zs x y (k, omega (arith, less), is) has)

below : (n k : ℕ) → k < n → Contains (range_with_len 0 n) k
below n k less =
    (k, subst (λ m. k < m) (sym (length-range_with_len 0 n)) less, get_or-range_with_len 0 n k k less ∙ omega arith)

-- Entry bits.

doubled : (n m : ℕ) (b : Bool) → n < m → 2 * n + digit b < m * 2
doubled n m true less = omega (arith, less)
doubled n m false less = omega (arith, less)

bits : (o : Over) (ks : List ℕ) (n m : ℕ) → n < m → bits_number o n ks < m * 2 ^ length ks
bits o [] n m less = omega (arith, less)
bits o (k ∷ ks) n m less =
    let more = bits o ks (2 * n + digit (is_true (param_cell o k))) (m * 2) (doubled n m (is_true (param_cell o k)) less) in
    subst (λ z. bits_number o n (k ∷ ks) < z)
    (Rattle.std.proofs.Common.mul_assoc m 2 (2 ^ length ks)
    ∙ ap (λ z. m * z) (Rattle.std.proofs.Common.mul_comm 2 (2 ^ length ks) ∙ sym (pow-suc 2 (length ks)))) more

given_below : (o : Over) → given o < 2 ^ length (entry_params o.source)
given_below o = subst (λ z. given o < z) (omega arith) (bits o (entry_params o.source) 0 1 (omega arith))

-- Rows.

equal_states : (a b : State) → same_state a b ≡ true → a ≡ b
equal_states state.Nil state.Nil h = refl
equal_states (state.At m) (state.At n) h = ap state.At (eqb-true m n h)
equal_states state.Bad state.Bad h = refl
equal_states state.Held state.Held h = refl
equal_states state.Escaped state.Escaped h = refl
equal_states state.Freed state.Freed h = refl
equal_states state.Null state.Null h = refl
equal_states state.Fresh state.Fresh h = refl
equal_states state.Other state.Other h = refl
equal_states state.Same state.Same h = refl
equal_states _ _ h = absurd (true≢false (sym h))

equal_gives : (a b : Gives) → same_gives a b ≡ true → a ≡ b
equal_gives gives.Nothing gives.Nothing h = refl
equal_gives gives.Zero gives.Zero h = refl
equal_gives gives.NotZero gives.NotZero h = refl
equal_gives _ _ h = absurd (true≢false (sym h))

-- a row that is the same as a candidate is one
among : (rows : List Row) (a b : Row) → same_row a b ≡ true → Contains rows b → Contains rows a
among rows a b h has =
    let one = and_parts (nat_eq a.given b.given) (same_state a.before b.before && (same_gives a.result b.result && same_state a.after b.after)) h in
    let two = and_parts (same_state a.before b.before) (same_gives a.result b.result && same_state a.after b.after) one.1 in
    let three = and_parts (same_gives a.result b.result) (same_state a.after b.after) two.1 in
    subst (λ c. Contains rows (row c a.before a.result a.after)) (sym (eqb-true a.given b.given one.0))
    (subst (λ c. Contains rows (row b.given c a.result a.after)) (sym (equal_states a.before b.before two.0))
    (subst (λ c. Contains rows (row b.given b.before c a.after)) (sym (equal_gives a.result b.result three.0))
    (subst (λ c. Contains rows (row b.given b.before b.result c)) (sym (equal_states a.after b.after three.1)) has)))

state_among : (s : Source) (k : ℕ) → k < states s → Contains (machine_states s) (state.At k)
state_among s k less = mapped state.At (range_with_len 0 (states s)) k (below (states s) k less)

result_among : (g : Gives) → Contains (gives.Nothing ∷ gives.Zero ∷ gives.NotZero ∷ []) g
result_among gives.Nothing = first gives.Nothing (gives.Zero ∷ gives.NotZero ∷ [])
result_among gives.Zero = later gives.Nothing (gives.Zero ∷ gives.NotZero ∷ []) gives.Zero (first gives.Zero (gives.NotZero ∷ []))
result_among gives.NotZero =
    later gives.Nothing (gives.Zero ∷ gives.NotZero ∷ []) gives.NotZero
    (later gives.Zero (gives.NotZero ∷ []) gives.NotZero (first gives.NotZero []))

candidate : (s : Source) (c k : ℕ) (g : Gives) (a : State) → c < 2 ^ length (entry_params s) → k < states s
    → Contains (machine_states s ++ state.Bad ∷ []) a → Contains (lock_candidates s) (row c (state.At k) g a)
candidate s c k g a hc hk ha =
    flat (λ d. flat_map (lock_candidates_from s d) (machine_states s)) (givens s) c (row c (state.At k) g a)
    (below (2 ^ length (entry_params s)) c hc)
    (flat (lock_candidates_from s c) (machine_states s) (state.At k) (row c (state.At k) g a) (state_among s k hk)
    (flat (λ r. map (λ b. row c (state.At k) r b) (machine_states s ++ state.Bad ∷ [])) (gives.Nothing ∷ gives.Zero ∷ gives.NotZero ∷ []) g
    (row c (state.At k) g a) (result_among g)
    (mapped (λ b. row c (state.At k) g b) (machine_states s ++ state.Bad ∷ []) a ha)))

-- Locations that callers know.

there : (ls : List Location) (at : ℕ) → is_outer (slice_index_or ls at nowhere) ≡ true → at < length ls
there [] at h = absurd (true≢false (sym h))
there (l ∷ ls) zero h = omega arith
there (l ∷ ls) (suc at) h = omega (arith, there ls at h)

module _ (s : Source) (p : Layout) (choice : List Bool) (whole : IsWhole s.machine) (proper : IsProper s p (run s p choice).1) where
  before_known : (at : ℕ) → is_outer (location p at) ≡ true → entry_state_at s choice (location p at).state < states s
  before_known at h = state_known s choice whole (location p at).state h

  now_from : (at : ℕ) (c : Cell) → is_outer (location p at) ≡ true → IsState s (location p at) c → number_of c < states s
  now_from at c h (k, is, known) = subst (λ d. number_of d < states s) (sym is) (known h)

  now_known : (at : ℕ) → is_outer (location p at) ≡ true → number_of (nth_cell (run s p choice).1.places (length p.locations + at)) < states s
  now_known at h =
      now_from at (nth_cell (run s p choice).1.places (length p.locations + at)) h (proper.states at (there p.locations at h))

  exit_covered : (at : ℕ) → is_outer (location p at) ≡ true
      → Contains (lock_candidates s)
      (row (given (run_over s p choice)) (state_before (run_over s p choice) at) (result (run_over s p choice)) (state_now (run_over s p choice) at))
  exit_covered at h =
      candidate s (given (run_over s p choice)) (entry_state_at s choice (location p at).state) (result (run_over s p choice))
      (state_now (run_over s p choice) at) (given_below (run_over s p choice)) (before_known at h)
      (Contains-append_left (machine_states s) (state.Bad ∷ []) (state_now (run_over s p choice) at)
      (state_among s (number_of (nth_cell (run s p choice).1.places (length p.locations + at))) (now_known at h)))

  error_covered : (at : ℕ) → is_outer (location p at) ≡ true
      → Contains (lock_candidates s)
      (row (given (run_over s p choice)) (state_before (run_over s p choice) at) gives.Nothing state.Bad)
  error_covered at h =
      candidate s (given (run_over s p choice)) (entry_state_at s choice (location p at).state) gives.Nothing state.Bad
      (given_below (run_over s p choice)) (before_known at h)
      (Contains-append_right (machine_states s) (state.Bad ∷ []) state.Bad (first state.Bad []))

  pub covered : (x : Texts) (at : ℕ) (r : Row) → is_outer (location p at) ≡ true → says x (run_over s p choice) (Locks at r) ≡ true
      → Contains (lock_candidates s) r
  covered x at r h said =
      let o = run_over s p choice in
      let exit = row (given o) (state_before o at) (result o) (state_now o at) in
      let error = row (given o) (state_before o at) gives.Nothing state.Bad in
      ⊎_elim
      (λ e. among (lock_candidates s) r exit (and_parts (exits o) (same_row r exit) e).1 (exit_covered at h))
      (λ e. among (lock_candidates s) r error (and_parts (errs_at o.ended at) (same_row r error) e).1 (error_covered at h))
      (or_cases (exits o && same_row r exit) (errs_at o.ended at && same_row r error)
      (and_parts (is_met o at) ((exits o && same_row r exit) || (errs_at o.ended at && same_row r error)) said).1)
