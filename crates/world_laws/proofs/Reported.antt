-- Each error has its report.
use Rattle.std.proofs.Common.{◌≡◌, ℕ, zero, suc, ◌+◌, ◌-◌, ◌<◌, ◌≤◌, Bool, true, false, ◌&&◌, cond, List, [], ◌∷◌, ◌++◌, map, filter, length, nat_eq, eqb, refl, sym, subst, ◌∙◌, ⊎_elim, arith}
use Rattle.std.proofs.lemmas.Bool.{true≢false, and_parts, and_from, eqb-true, cases_eq}
use Rattle.std.proofs.lemmas.List.Elements.{All-contains, All-from_recursion, Contains-append_left, Contains-append_right, Contains-push}
use Rattle.std.proofs.lemmas.Map.Views.{Contains-from_any}
use Rattle.std.proofs.lemmas.List.FromFn.{get_or-range_with_len, length-range_with_len}
use Rattle.std.specs.Prelude.{Contains, Option, Some, None, bytes_eq, if◌then◌else◌}
use Rattle.std.specs.List.{AllByRecursion, flat_map, list_all, list_any, range_with_len}
use Rattle.sc_base.specs.declared.pos.Pos.{Pos}
use Rattle.sum_rows.specs.declared.row.State.{State}
use Rattle.sum_rows.specs.declared.row.State.TheVariants as state
use Rattle.sum_rows.specs.declared.row.Gives.{Gives}
use Rattle.sum_rows.specs.declared.row.Gives.TheVariants as gives
use Rattle.sum_rows.specs.declared.report.Report.{Report}
use Rattle.sum_rows.specs.declared.report.Report.TheVariants as report
use Rattle.sc_world.specs.Gather.{Site}
use Rattle.sc_world.specs.Source.{Source}
use Rattle.sc_world.specs.Layout.{same_pos}
use Rattle.sc_world.specs.World.{states}
use Rattle.sc_world.specs.Known.{row}
use Rattle.sc_world.specs.Paths.{Texts, text_at, path_of}
use Rattle.sc_world.specs.Shows.{Query, Locks, EndsAt, Errs, Leaks}
use Rattle.sc_world.specs.Verdict.{machine_states, error_row, answers, results, givens, touched, numbers, first_of, errs_from_all, double, double_for, Pair, pair, pairs, pairs_of, first_row, second_row, both_stand, ambiguous, ambiguous_for, with_text, texts_from, inner, leak, with_pos, places_of_calls}
use Rattle.world_laws.specs.Runs.{SomeRun}
use Rattle.world_laws.specs.Reported.{HasReport, IsDoubleAt, IsAmbiguousAt, IsInnerOf, IsLeakAt}
use Rattle.world_laws.proofs.Among.{FirstIsLeast, FirstIsThere, some_to}
use Rattle.world_laws.proofs.Candidates.{first_is, each_so, in_map, in_flat, in_range}
use Rattle.world_laws.proofs.Reports.{first_head, same_first, shown_right, ended_there}

-- Tests of lists.

by_elements : {X : Type 0} (P : X → Type 0) (xs : List X) (x : X) → AllByRecursion P xs → Contains xs x → P x
by_elements P xs x all has = All-contains P xs x (All-from_recursion P xs all) has

list_all_from : {X : Type 0} (p : X → Bool) (xs : List X) → AllByRecursion (λ x. p x ≡ true) xs → list_all p xs ≡ true
list_all_from p [] all = refl
list_all_from p (x ∷ xs) (h, hs) = and_from (p x) (list_all p xs) h (list_all_from p xs hs)

-- where some element passes there is a first one
FirstIs : {X : Type 0} → (X → Bool) → List X → Type 0
FirstIs {X = X} p xs = (y : X) × (first_head (filter p xs) ≡ Some y)

first_cons : {X : Type 0} (b : Bool) (x : X) (ys : List X) → ((y : X) × (first_head ys ≡ Some y)) → (y : X) × (first_head (cond b (x ∷ ys) ys) ≡ Some y)
first_cons true x ys rest = (x, refl)
first_cons false x ys rest = rest

first_here : {X : Type 0} (b : Bool) (x : X) (ys : List X) → b ≡ true → (y : X) × (first_head (cond b (x ∷ ys) ys) ≡ Some y)
first_here true x ys h = (x, refl)
first_here false x ys h = absurd (true≢false (sym h))

firsts : {X : Type 0} (p : X → Bool) (xs : List X) → AllByRecursion (λ x. p x ≡ true → FirstIs p xs) xs
unfolding FirstIs
firsts p [] = tt
firsts p (x ∷ xs) = (
  first_here (p x) x (filter p xs),
  each_so (λ y. p y ≡ true → FirstIs p xs) (λ y. p y ≡ true → FirstIs p (x ∷ xs)) (λ y so h. first_cons (p x) x (filter p xs) (so h)) xs
      (firsts p xs),
)

first_there : {X : Type 0} (p : X → Bool) (xs : List X) (x : X) → Contains xs x → p x ≡ true → (y : X) × (first_head (filter p xs) ≡ Some y)
unfolding FirstIs
first_there p xs x has h = by_elements (λ y. p y ≡ true → FirstIs p xs) xs x (firsts p xs) has h

-- States of a machine.

in_range_from : (a len n : ℕ) → a ≤ n → n < a + len → Contains (range_with_len a len) n
in_range_from a len n low high =
    let inside : n - a < len = omega (arith, low, high) in
    (n - a, subst (λ m. n - a < m) (sym (length-range_with_len a len)) inside, get_or-range_with_len a len (n - a) n inside ∙ omega (arith, low))

state_among : (a len n : ℕ) → a ≤ n → n < a + len → Contains (map (λ k. state.At k) (range_with_len a len)) (state.At n)
state_among a len n low high = in_map (λ k. state.At k) (range_with_len a len) n (in_range_from a len n low high)

each_state : (P : State → Type 0) (a len : ℕ) → ((k : ℕ) → a ≤ k → k < a + len → P (state.At k))
    → AllByRecursion P (map (λ k. state.At k) (range_with_len a len))
each_state P a zero so = tt
each_state P a (suc len) so =
    (so a (omega arith) (omega arith), each_state P (a + 1) len (λ k low high. so k (omega (arith, low)) (omega (arith, high))))

bytes_is : (a b : List ℕ) → bytes_eq a b ≡ true → a ≡ b
bytes_is [] [] h = refl
bytes_is [] (d ∷ ds) h = absurd (true≢false (sym h))
bytes_is (c ∷ cs) [] h = absurd (true≢false (sym h))
bytes_is (c ∷ cs) (d ∷ ds) h =
    let parts = and_parts (eqb c d) (bytes_eq cs ds) h in
    let front = eqb-true c d parts.0 in
    let rest = bytes_is cs ds parts.1 in
    cc

abbrev pos_at : ℕ → ℕ → ℕ → Pos
pos_at file line col = record { file = file; line = line; col = col }

pos_is : (p q : Pos) → same_pos p q ≡ true → p ≡ q
pos_is p q h =
    let one = and_parts (nat_eq p.file q.file) (nat_eq p.line q.line && nat_eq p.col q.col) h in
    let two = and_parts (nat_eq p.line q.line) (nat_eq p.col q.col) one.1 in
    let files = eqb-true p.file q.file one.0 in
    let lines = eqb-true p.line q.line two.0 in
    let cols = eqb-true p.col q.col two.1 in
    let same : pos_at p.file p.line p.col ≡ pos_at q.file q.line q.col = cc in
    same

-- an element that is put behind a list where it is not there is there
put_there : {X : Type 0} (eq : X → X → Bool) → ((a b : X) → eq a b ≡ true → a ≡ b) → (x : X) (xs : List X) (b : Bool)
    → list_any (eq x) xs ≡ b → Contains (if b then xs else xs ++ x ∷ []) x
put_there eq is x xs true h = Contains-from_any is x xs h
put_there eq is x xs false h = Contains-push xs x

still_there : {X : Type 0} (x y : X) (xs : List X) (b : Bool) → Contains xs y → Contains (if b then xs else xs ++ x ∷ []) y
still_there x y xs true has = has
still_there x y xs false has = Contains-append_left xs (x ∷ []) y has

module _ (least : FirstIsLeast) (some : FirstIsThere) (s : Source) (x : Texts) where
  yes_of : (q : Query) → SomeRun s x q → (answers s x).some q ≡ true
  yes_of q run = some_to some s x q run

  -- Double.

  double_there : (at y : ℕ) (o : Option ℕ) → o ≡ Some y
      → Contains (double_for s x (answers s x) at o)
      (report.Double (path_of x.layout at) (map (λ b. (answers s x).shown (Locks at (error_row s x (answers s x) y b))) (machine_states s)))
  double_there at y None e = absurd (cc)
  double_there at y (Some z) e = let same : z ≡ y = cc in subst
      (λ w. Contains (double_for s x (answers s x) at (Some z))
      (report.Double (path_of x.layout at) (map (λ b. (answers s x).shown (Locks at (error_row s x (answers s x) w b))) (machine_states s))))
      same (first_is _ [])

  pub double_reported : (at given : ℕ) → Contains (touched s x (answers s x)) at → Contains (givens s) given
      → ((k : ℕ) → k < states s → SomeRun s x (Locks at (row given (state.At k) gives.Nothing state.Bad))) → HasReport s x (IsDoubleAt x at)
  double_reported at given is_touched is_given runs =
      let all : errs_from_all s x (answers s x) at given ≡ true =
      list_all_from (λ b. (answers s x).some (Locks at (error_row s x (answers s x) given b))) (machine_states s)
      (each_state (λ b. (answers s x).some (Locks at (error_row s x (answers s x) given b)) ≡ true) 0 (states s)
      (λ k low high. yes_of (Locks at (row given (state.At k) gives.Nothing state.Bad)) (runs k (omega (arith, high))))) in
      let found = first_there (errs_from_all s x (answers s x) at) (givens s) given is_given all in
      let here =
      double_there at found.0 (first_of s x (answers s x) (filter (errs_from_all s x (answers s x) at) (givens s)))
      (sym (same_first least some s x (filter (errs_from_all s x (answers s x) at) (givens s))) ∙ found.1) in
      let mine =
      report.Double (path_of x.layout at)
      (map (λ b. (answers s x).shown (Locks at (error_row s x (answers s x) found.0 b))) (machine_states s)) in (
        mine,
        Contains-append_left (flat_map (double s x (answers s x)) (touched s x (answers s x))) _ mine
            (in_flat (double s x (answers s x)) (touched s x (answers s x)) at mine is_touched here),
        refl,
      )

  -- Ambiguous.

  pair_there : (m n a len : ℕ) → a ≤ m → m < n → n < a + len
      → Contains (pairs_of s x (answers s x) (map (λ k. state.At k) (range_with_len a len))) (state.At m, state.At n)
  pair_there m n a zero low less high = absurd (omega (arith, low, less, high))
  pair_there m n a (suc len) low less high =
      ⊎_elim
      (λ (e : a ≡ m).
      Contains-append_left (map (λ b. (state.At a, b)) (map (λ k. state.At k) (range_with_len (a + 1) len)))
      (pairs_of s x (answers s x) (map (λ k. state.At k) (range_with_len (a + 1) len))) (state.At m, state.At n)
      (subst (λ y. Contains {X = State × State} (map (λ b. (state.At a, b)) (map (λ k. state.At k) (range_with_len (a + 1) len))) (state.At y, state.At n)) e
      (in_map (λ b. (state.At a, b)) (map (λ k. state.At k) (range_with_len (a + 1) len)) (state.At n)
      (state_among (a + 1) len n (omega (arith, e, less)) (omega (arith, high))))))
      (λ apart.
      Contains-append_right (map (λ b. (state.At a, b)) (map (λ k. state.At k) (range_with_len (a + 1) len)))
      (pairs_of s x (answers s x) (map (λ k. state.At k) (range_with_len (a + 1) len))) (state.At m, state.At n)
      (pair_there m n (a + 1) len (omega (arith, low, apart)) less (omega (arith, high))))
      (cases_eq a m)

  ambiguous_there : (at : ℕ) (p : Pair s x (answers s x)) (o : Option (Pair s x (answers s x))) → o ≡ Some p
      → (r : Report) × Contains (ambiguous_for s x (answers s x) at o) r × IsAmbiguousAt x at r
  ambiguous_there at p None e = absurd (cc)
  ambiguous_there at p (Some q) e =
      let mine =
      report.Ambiguous (path_of x.layout at) ((answers s x).shown (Locks at (first_row s x (answers s x) q)))
      ((answers s x).shown (Locks at (second_row s x (answers s x) q))) in
      (mine, first_is mine [], refl)

  pub ambiguous_reported : (at given k one other : ℕ) (g : Gives) → Contains (touched s x (answers s x)) at → Contains (givens s) given
      → k < states s → Contains (results s) g → one < other → other < states s
      → SomeRun s x (Locks at (row given (state.At k) g (state.At one))) → SomeRun s x (Locks at (row given (state.At k) g (state.At other)))
      → HasReport s x (IsAmbiguousAt x at)
  ambiguous_reported at given k one other g is_touched is_given below is_result less high run_one run_other =
      let mine : Pair s x (answers s x) = pair s x (answers s x) given (state.At k) g (state.At one, state.At other) in
      let among : Contains (pairs s x (answers s x)) mine =
      in_flat
      (λ c. flat_map (λ b. flat_map (λ r. map (pair s x (answers s x) c b r) (pairs_of s x (answers s x) (machine_states s))) (results s)) (machine_states s))
      (givens s) given mine is_given
      (in_flat (λ b. flat_map (λ r. map (pair s x (answers s x) given b r) (pairs_of s x (answers s x) (machine_states s))) (results s))
      (machine_states s) (state.At k) mine (state_among 0 (states s) k (omega arith) (omega (arith, below)))
      (in_flat (λ r. map (pair s x (answers s x) given (state.At k) r) (pairs_of s x (answers s x) (machine_states s))) (results s) g mine is_result
      (in_map (pair s x (answers s x) given (state.At k) g) (pairs_of s x (answers s x) (machine_states s)) (state.At one, state.At other)
      (pair_there one other 0 (states s) (omega arith) less (omega (arith, high)))))) in
      let stands : both_stand s x (answers s x) at mine ≡ true =
      and_from ((answers s x).some (Locks at (row given (state.At k) g (state.At one))))
      ((answers s x).some (Locks at (row given (state.At k) g (state.At other))))
      (yes_of (Locks at (row given (state.At k) g (state.At one))) run_one)
      (yes_of (Locks at (row given (state.At k) g (state.At other))) run_other) in
      let found = first_there (both_stand s x (answers s x) at) (pairs s x (answers s x)) mine among stands in
      let here =
      ambiguous_there at found.0 (first_of s x (answers s x) (filter (both_stand s x (answers s x) at) (pairs s x (answers s x))))
      (sym (same_first least some s x (filter (both_stand s x (answers s x) at) (pairs s x (answers s x)))) ∙ found.1) in (
        here.0,
        Contains-append_right (flat_map (double s x (answers s x)) (touched s x (answers s x))) _ here.0
            (Contains-append_left (flat_map (ambiguous s x (answers s x)) (touched s x (answers s x))) _ here.0
            (in_flat (ambiguous s x (answers s x)) (touched s x (answers s x)) at here.0 is_touched here.1)),
        here.2,
      )

  -- Inner.

  step_keeps : (b : Bool) (t u : List ℕ) (ts : List (List ℕ)) → Contains ts u
      → Contains (if b then with_text s x (answers s x) t ts else ts) u
  step_keeps true t u ts has = still_there t u ts (list_any (bytes_eq t) ts) has
  step_keeps false t u ts has = has

  keeps : (ats : List ℕ) (ts : List (List ℕ)) (u : List ℕ) → Contains ts u → Contains (texts_from s x (answers s x) ts ats) u
  keeps [] ts u has = has
  keeps (at ∷ ats) ts u has =
      keeps ats (if (answers s x).some (EndsAt at) then with_text s x (answers s x) (text_at x at) ts else ts) u
      (step_keeps ((answers s x).some (EndsAt at)) (text_at x at) u ts has)

  step_meets : (b : Bool) (t : List ℕ) (ts : List (List ℕ)) → b ≡ true → Contains (if b then with_text s x (answers s x) t ts else ts) t
  step_meets true t ts h = put_there bytes_eq bytes_is t ts (list_any (bytes_eq t) ts) refl
  step_meets false t ts h = absurd (true≢false (sym h))

  meets : (ats : List ℕ) (ts : List (List ℕ))
      → AllByRecursion (λ at. (answers s x).some (EndsAt at) ≡ true → Contains (texts_from s x (answers s x) ts ats) (text_at x at)) ats
  meets [] ts = tt
  meets (at ∷ ats) ts = (
    λ h.
        keeps ats (if (answers s x).some (EndsAt at) then with_text s x (answers s x) (text_at x at) ts else ts) (text_at x at)
        (step_meets ((answers s x).some (EndsAt at)) (text_at x at) ts h),
    meets ats (if (answers s x).some (EndsAt at) then with_text s x (answers s x) (text_at x at) ts else ts),
  )

  pub inner_reported : (at : ℕ) → at < length x.layout.locations → SomeRun s x (EndsAt at) → HasReport s x (IsInnerOf s x (text_at x at))
  inner_reported at inside run =
      let h = yes_of (EndsAt at) run in
      let ns = numbers s x (answers s x) in
      let among =
      by_elements (λ n. (answers s x).some (EndsAt n) ≡ true → Contains (texts_from s x (answers s x) [] ns) (text_at x n)) ns at
      (meets ns []) (in_range (length x.layout.locations) at inside) h in
      let mine = report.Inner ((answers s x).shown (Errs (text_at x at))) in (
        mine,
        Contains-append_right (flat_map (double s x (answers s x)) (touched s x (answers s x))) _ mine
            (Contains-append_right (flat_map (ambiguous s x (answers s x)) (touched s x (answers s x))) _ mine
            (Contains-append_left (flat_map (inner s x (answers s x)) (texts_from s x (answers s x) [] ns)) _ mine
            (in_flat (inner s x (answers s x)) (texts_from s x (answers s x) [] ns) (text_at x at) mine among (first_is mine [])))),
        shown_right least some s x (Errs (text_at x at)) (ended_there least some s x at h),
      )

  -- Leak.

  place_keeps : (cs : List Site) (ps : List Pos) (u : Pos) → Contains ps u → Contains (places_of_calls s x (answers s x) ps cs) u
  place_keeps [] ps u has = has
  place_keeps (c ∷ cs) ps u has =
      place_keeps cs (with_pos s x (answers s x) c.pos ps) u (still_there c.pos u ps (list_any (same_pos c.pos) ps) has)

  place_meets : (cs : List Site) (ps : List Pos)
      → AllByRecursion (Contains (places_of_calls s x (answers s x) ps cs)) (map (λ c. c.pos) cs)
  place_meets [] ps = tt
  place_meets (c ∷ cs) ps = (
    place_keeps cs (with_pos s x (answers s x) c.pos ps) c.pos (put_there same_pos pos_is c.pos ps (list_any (same_pos c.pos) ps) refl),
    place_meets cs (with_pos s x (answers s x) c.pos ps),
  )

  leak_there : (p : Pos) (b : Bool) → b ≡ true
      → Contains (if b then report.Leak p ((answers s x).shown (Leaks p)) ∷ [] else []) (report.Leak p ((answers s x).shown (Leaks p)))
  leak_there p true h = first_is _ []
  leak_there p false h = absurd (true≢false (sym h))

  pub leak_reported : (p : Pos) → Contains (map (λ c. c.pos) x.layout.sites) p → SomeRun s x (Leaks p) → HasReport s x (IsLeakAt s x p)
  leak_reported p is_place run =
      let h = yes_of (Leaks p) run in
      let places = places_of_calls s x (answers s x) [] x.layout.sites in
      let among = by_elements (Contains places) (map (λ c. c.pos) x.layout.sites) p (place_meets x.layout.sites []) is_place in
      let mine = report.Leak p ((answers s x).shown (Leaks p)) in (
        mine,
        Contains-append_right (flat_map (double s x (answers s x)) (touched s x (answers s x))) _ mine
            (Contains-append_right (flat_map (ambiguous s x (answers s x)) (touched s x (answers s x))) _ mine
            (Contains-append_right (flat_map (inner s x (answers s x)) (texts_from s x (answers s x) [] (numbers s x (answers s x)))) _ mine
            (in_flat (leak s x (answers s x)) places p mine among (leak_there p ((answers s x).some (Leaks p)) h)))),
        (refl, shown_right least some s x (Leaks p) h),
      )
