-- The error of an item, and those of all items one after the other.
use Rattle.std.proofs.Common.{◌≡◌, ℕ, zero, suc, ◌+◌, ◌<◌, ◌≤◌, nat_eq, Bool, true, false, not, ◌&&◌, ◌||◌, if◌then◌else◌, List, [], ◌∷◌, ◌++◌, length, take, get_or, Result, Ok, Err, inl, refl, sym, ◌∙◌, ap, subst, arith}
use Rattle.std.specs.Prelude.{Option, Some, None}
use Rattle.std.specs.List.{list_any}
use Rattle.std.proofs.lemmas.Bool.{ne_eqb}
use Rattle.std.proofs.lemmas.List.{length-take-le, take_more, take_all}
use Rattle.sc_base.specs.declared.pos.Pos.{Pos}
use Rattle.bit_net.specs.declared.nodes.Gate.{Gate}
use Rattle.bit_net.specs.declared.nodes.Node.{Node}
use Rattle.bit_net.specs.Runs.{Runs, Grown, Gives, Always}
use Rattle.bit_words.specs.Number.{number}
use Rattle.gl_sets.specs.declared.pairs.Pair.{Pair}
use Rattle.gl_sets.specs.Guards.{Points, guard}
use Rattle.gl_sets.specs.Sets.{IsJoin}
use Rattle.gl_store.specs.declared.stores.Location.{Location}
use Rattle.gl_store.specs.Meets.{kinds, locations_top}
use Rattle.gl_store.specs.Steps.{IsMarkedWhere}
use Rattle.run_store.specs.declared.Flag.TheVariants as flag
use Rattle.run_store.specs.Concrete.{Cell, nth_cell}
use Rattle.sum_rows.specs.declared.row.Gives.TheVariants as gives
use Rattle.sum_rows.specs.declared.row.Row.{Row}
use Rattle.sum_rows.specs.declared.row.State.{State}
use Rattle.sum_rows.specs.declared.row.State.TheVariants as state
use Rattle.sc_world.specs.declared.run.Reason.TheVariants as reason
use Rattle.sc_world.specs.Source.{Source}
use Rattle.sc_world.specs.Layout.{Layout}
use Rattle.sc_world.specs.World.{World, Ended, Env, Run, ◌>>=◌, bit_at, done, goes_on, mark, number_of, size, state_of, unless}
use Rattle.sc_world.specs.Known.{Acting, Failing, errs, row, same_state, stands as stands_in}
use Rattle.sc_world.specs.Eval.{fails}
use Rattle.layout_base.specs.Seen.{spot_of}
use Rattle.gate_runs.specs.declared.ends.Ends.{Ends}
use Rattle.gate_runs.specs.Stands.{Does, Any}
use Rattle.gate_runs.proofs.Bind.{bind, does_done}
use Rattle.gate_steps.specs.Steps.{GoesOnWhere}
use Rattle.gate_steps.proofs.Known.{does_same, does_tell}
use Rattle.gate_places.specs.Places.{env_of}
use Rattle.gate_entry.specs.Entry.{IsBit}
use Rattle.gate_acts.specs.Acts.{acts_on, where_held}
use Rattle.gate_objects.specs.Escapes.{MarksTarget, mark_target}
use Rattle.gate_paths.specs.declared.gathered.Found.{Found}
use Rattle.gate_paths.specs.Targets.{found_target}
use Rattle.gate_paths.specs.Paths.{IsFound}
use Rattle.gate_paths.specs.Gathered.{AreFound, Shows, found_list, put_locked, where_item}
use Rattle.gate_rows.specs.declared.sought.Sought.{Sought}
use Rattle.gate_rows.specs.Sought.{gives_of, is_side, is_sought}
use Rattle.gate_states.specs.declared.called.Called.{Called}
use Rattle.gate_states.specs.Called.{IsCalled, acting_of}
use Rattle.gate_states.specs.States.{IsStateBefore}
use Rattle.gate_fails.specs.Errors.{DoesErr, DoesErrEach, ErrsTarget, FailsEach, IsErring, NeedsRow, err_target, errs_each, errs_found, errs_where, fail_target, has_error, needs_row}
use Rattle.gate_fails.proofs.Stepping.{acts_held, done_last}
use Rattle.gate_fails.proofs.Marking.{marks_target}

-- Where an item errs.

pub is_erring : (p : Layout) (n1 ns : List Node) (bit chosen : ℕ) (at none erring : List Pair) → Grown n1 ns → IsBit p n1 bit chosen
    → Always n1 (λ choice v. Points v none 0) → IsJoin ns chosen at none erring → IsErring p ns bit at erring
is_erring p n1 ns bit chosen at none erring grown is to_null join =
    record {
      below = join.below;
      points = λ bits v runs few target points.
          let before = grown.runs (bit_at bits) v runs in
          subst (λ b. Points v erring (if b then target else 0)) (is.value bits v before (inl few))
          (join.points (bit_at bits) v runs target 0 points (to_null.holds (bit_at bits) v before));
    }

-- Whether its row is there.

never_null : (at : ℕ) → nat_eq (suc at) 0 ≡ false
never_null at = ne_eqb (suc at) 0 (λ h. omega (arith, h))

needs_is : (b : Bool) (target : ℕ) (w : World) → unless (nat_eq target 0 || b) reason.NoRow w ≡ needs_row b target w
needs_is b zero w = refl
needs_is b (suc at) w = ap (λ x. unless (x || b) reason.NoRow w) (never_null at)

pub row_needed : (n0 n1 ns : List Node) (erring : List Pair) (none has fine : ℕ) (g0 g1 : Ends) → Grown n0 n1 → Grown n1 ns
    → ((v : ℕ → Bool) (ps : List Pair) (t u : ℕ) → Points v ps t → guard v ps u ≡ nat_eq t u)
    → Gives n0 none (λ choice v. guard v erring 0) → Gives n1 fine (λ choice v. v none || v has) → GoesOnWhere ns fine reason.NoRow g0 g1
    → NeedsRow ns erring has g0 g1
row_needed n0 n1 ns erring none has fine g0 g1 grown1 grown2 guards is_none is_fine goes =
    record {
      does = λ choice v runs l b holds target points.
          let r1 = grown2.runs choice v runs in
          let r0 = grown1.runs choice v r1 in
          let null : v none ≡ nat_eq target 0 = is_none.value choice v r0 ∙ guards v erring target 0 points in
          let is : v fine ≡ (nat_eq target 0 || b) = is_fine.value choice v r1 ∙ ap (λ x. x || v has) null ∙ ap (λ x. nat_eq target 0 || x) holds in
          does_same v l l g0 g1 (unless (nat_eq target 0 || b) reason.NoRow) (needs_row b target) (Any {A = Unit {0}}) (needs_is b target)
          (does_tell v l l g0 g1 (unless (nat_eq target 0 || b) reason.NoRow) (λ u. v g1.live.at ≡ true → (nat_eq target 0 || b) ≡ true) (Any {A = Unit {0}})
          (λ w met x u passed good. tt) (λ x off good. tt) (goes.does choice v runs l (nat_eq target 0 || b) is));
    }

pub error_gate : (n0 n1 n2 ns : List Node) (given before : List Gate) (rows : List Row) (is_any known stands gate : ℕ) (q : Sought) → Grown n0 n1 → Grown n1 n2
    → Grown n2 ns → Gives n0 is_any (λ choice v. nat_eq (number v before) 15) → Gives n1 known (λ choice v. not (v is_any))
    → Gives n2 stands (λ choice v. list_any (is_sought v q) rows) → Gives ns gate (λ choice v. v known && v stands) → q.given.now ≡ given
    → ((v : ℕ → Bool) → gives_of v q.result ≡ gives.Nothing)
    → ((v : ℕ → Bool) (x : State) → is_side v q.before x ≡ same_state (state.At (number v before)) x)
    → ((v : ℕ → Bool) (x : State) → is_side v q.after x ≡ same_state state.Bad x)
    → ((v : ℕ → Bool) (q : Sought) (b a : State) (rows : List Row) → ((x : State) → is_side v q.before x ≡ same_state b x)
    → ((x : State) → is_side v q.after x ≡ same_state a x)
    → list_any (is_sought v q) rows ≡ stands_in (row (number v q.given.now) b (gives_of v q.result) a) rows)
    → Gives ns gate (λ choice v. has_error (number v given) (number v before) rows)
error_gate n0 n1 n2 ns given before rows is_any known stands gate q grown1 grown2 grown3 any' known' stands' both' same nothing from to law =
    record {
      below = both'.below;
      value = λ choice v runs.
          let r2 = grown3.runs choice v runs in
          let r1 = grown2.runs choice v r2 in
          let r0 = grown1.runs choice v r1 in
          both'.value choice v runs
          ∙ ap (λ b. b && v stands) (known'.value choice v r1 ∙ ap not (any'.value choice v r0))
          ∙ ap (λ b. not (nat_eq (number v before) 15) && b)
          (stands'.value choice v r2 ∙ law v q (state.At (number v before)) state.Bad rows (from v) (to v)
          ∙ ap (λ r. stands_in (row (number v q.given.now) (state.At (number v before)) r state.Bad) rows) (nothing v)
          ∙ ap (λ bits. stands_in (row (number v bits) (state.At (number v before)) gives.Nothing state.Bad) rows) same);
    }

-- The error at a target.

target_parts : (env : Env) (pos : Pos) (b : Bool) (target : ℕ) (w : World)
    → goes_on (needs_row b target w) (λ u. mark_target target flag.Touched >>= λ u. fail_target env pos target) ≡ err_target env pos b target w
target_parts env pos b zero w = refl
target_parts env pos b (suc at) w = refl

needs_only : (env : Env) (pos : Pos) (target : ℕ) (w : World) → needs_row false target w ≡ err_target env pos false target w
needs_only env pos zero w = refl
needs_only env pos (suc at) w = refl

-- no row ever has the error
pub target_aside : (n1 ns : List Node) (erring : List Pair) (has : ℕ) (l : List Location) (g0 g1 : Ends) → locations_top l ≤ length ns → Grown n1 ns
    → NeedsRow n1 erring has g0 g1 → Always ns (λ choice v. v has ≡ false) → ErrsTarget ns erring has l l g0 g1
target_aside n1 ns erring has l g0 g1 top grown needs never =
    record {
      top = top;
      same = refl;
      does = λ choice v runs env pos b holds target points.
          let off : b ≡ false = sym holds ∙ never.holds choice v runs in
          subst (λ x. Does v l g0 (err_target env pos x target) l g1 (Any {A = Unit {0}})) (sym off)
          (does_same v l l g0 g1 (needs_row false target) (err_target env pos false target) (Any {A = Unit {0}}) (needs_only env pos target)
          (needs.does choice v (grown.runs choice v runs) l false (never.holds choice v runs) target points));
    }

pub target_errs : (n1 n2 ns : List Node) (erring erring' : List Pair) (has : ℕ) (l0 l1 : List Location) (g0 g1 g2 : Ends) → Grown n1 n2 → Grown n2 ns
    → NeedsRow n1 erring has g0 g1 → IsMarkedWhere n2 g1.live.at erring flag.Touched l0 l1 → erring' ≡ erring → FailsEach ns erring' g1 g2
    → ErrsTarget ns erring has l0 l1 g0 g2
target_errs n1 n2 ns erring erring' has l0 l1 g0 g1 g2 grown1 grown2 needs marks same_pairs fails_each =
    record {
      top = omega (arith, marks.below, grown2.longer);
      same = marks.same;
      does = λ choice v runs env pos b holds target points.
          let r2 = grown2.runs choice v runs in
          let r1 = grown1.runs choice v r2 in
          let f = fail_target env pos in
          let each : FailsEach ns erring g1 g2 = subst (λ ps. FailsEach ns ps g1 g2) same_pairs fails_each in
          let last : Does v l1 g1 (f target) l1 g2 (Any {A = Unit {0}}) =
          does_same v l1 l1 g1 g2 (acts_on v f erring) (f target) (Any {A = Unit {0}}) (acts_held v f erring target points.one) (each.does choice v runs l1 env pos)
          in
          does_same v l0 l1 g0 g2 (needs_row b target >>= λ u. mark_target target flag.Touched >>= λ u. f target) (err_target env pos b target)
          (Any {A = Unit {0}}) (target_parts env pos b target)
          (bind v l0 l0 l1 g0 g1 g2 (needs_row b target) (λ u. mark_target target flag.Touched >>= λ u. f target) (Any {A = Unit {0}}) (Any {A = Unit {0}})
          (needs.does choice v r1 l0 b holds target points) (λ u good.
          bind v l0 l1 l1 g1 g1 g2 (mark_target target flag.Touched) (λ u. f target) (Any {A = Unit {0}}) (Any {A = Unit {0}})
          ((marks_target n2 g1 flag.Touched erring l0 l1 marks).does choice v r2 target points) (λ u good. last)));
    }

-- The error of an item.

ended : (env : Env) (pos : Pos) (at : ℕ) (b : Bool) (w : World)
    → err_target env pos b (suc at) w ≡ goes_on (goes_on (unless b reason.NoRow w) (λ u. mark at flag.Touched >>= λ u. fails env pos at)) (λ c. done tt)
ended env pos at true w = refl
ended env pos at false w = refl

errs_same : (env : Env) (pos : Pos) (a : Acting) (rows : List Row) (bit at : ℕ) (c : Bool) (w : World)
    → goes_on (state_of env at w) (λ n. err_target env pos (has_error a.given n rows) (if c then suc at else 0))
    ≡ where_held c (errs env (fails env pos) a (record { rows = rows; bit = bit; at = at }) >>= λ u. done tt) w
errs_same env pos a rows bit at false w = refl
errs_same env pos a rows bit at true w = ended env pos at (has_error a.given (number_of (nth_cell w.places (size env + at))) rows) w

either_null : (b : Bool) (n : ℕ) → n ≡ 0 → (if b then n else 0) ≡ 0
either_null true n e = e
either_null false n e = refl

module _ (s : Source) (p : Layout) (n1 n2 n3 ns : List Node) (given before : List Gate) (item : Found) (erring : List Pair) (has : ℕ)
    (l0 l1 : List Location) (g0 g1 : Ends) (grown1 : Grown n1 n2) (grown2 : Grown n2 n3) (grown3 : Grown n3 ns)
    (is : IsErring p n1 (spot_of item.spot).bit (where_item item) erring) (reads : IsStateBefore p n2 l0 (where_item item) before)
    (is_row : Gives n3 has (λ choice v. has_error (number v given) (number v before) item.rows.now)) (target_does : ErrsTarget ns erring has l0 l1 g0 g1) where
  does_found : (bits : List Bool) (v : ℕ → Bool) → Runs ns (bit_at bits) v → length bits ≤ p.bits → (temps : List Cell) (turn : ℕ) (pos : Pos) (a : Acting)
      → number v given ≡ a.given → (o : Option ℕ) → IsFound v (where_item item) o
      → Does v l0 g0 (errs_found (env_of s p bits temps turn) (fails (env_of s p bits temps turn) pos) a item.rows.now (spot_of item.spot).bit o)
      l1 g1 (Any {A = Unit {0}})
  does_found bits v runs few temps turn pos a same None found =
      let env = env_of s p bits temps turn in
      let r1 = grown1.runs (bit_at bits) v (grown2.runs (bit_at bits) v (grown3.runs (bit_at bits) v runs)) in
      let points = subst (λ t. Points v erring t) (either_null (bit_at bits (spot_of item.spot).bit) 0 refl) (is.points bits v r1 few 0 found) in
      target_does.does (bit_at bits) v runs env pos (v has) refl 0 points
  does_found bits v runs few temps turn pos a same (Some at) found =
      let env = env_of s p bits temps turn in
      let rows = item.rows.now in
      let bit : ℕ = (spot_of item.spot).bit in
      let c : Bool = bit_at bits bit in
      let target : ℕ = if c then suc at else 0 in
      let r3 = grown3.runs (bit_at bits) v runs in
      let r2 = grown2.runs (bit_at bits) v r3 in
      let points = is.points bits v (grown1.runs (bit_at bits) v r2) few (suc at) found in
      does_same v l0 l1 g0 g1 (state_of env at >>= λ n. err_target env pos (has_error a.given n rows) target)
      (errs_found env (fails env pos) a rows bit (Some at)) (Any {A = Unit {0}}) (errs_same env pos a rows bit at c)
      (bind v l0 l0 l1 g0 g0 g1 (state_of env at) (λ n. err_target env pos (has_error a.given n rows) target) (λ n. number v before ≡ n) (Any {A = Unit {0}})
      (reads.does (bit_at bits) v r2 at found g0 s bits temps turn)
      (λ n tells.
      let holds : v has ≡ has_error a.given n rows =
      is_row.value (bit_at bits) v r3 ∙ ap (λ g. has_error g (number v before) rows) same ∙ ap (λ k. has_error a.given k rows) tells in
      target_does.does (bit_at bits) v runs env pos (has_error a.given n rows) holds target points))

  pub does_err : DoesErr s p ns given item l0 l1 g0 g1
  does_err = record { top = target_does.top; same = target_does.same; does = does_found }

-- All items, one after the other.

-- the errors of items by where each was found
abbrev pub errs_all : Env → Failing → Acting → List Found → List (Option ℕ) → Run (Unit {0})
errs_all env fail a [] os = done tt
errs_all env fail a (x ∷ xs) [] = done tt
errs_all env fail a (x ∷ xs) (o ∷ os) = errs_found env fail a x.rows.now (spot_of x.spot).bit o >>= λ u. errs_all env fail a xs os

module _ (env : Env) (fail : Failing) (a : Acting) where
  shown_at : (xs : List Found) (os : List (Option ℕ)) (r : Result (Unit {0}) Ended × World)
      → ((w : World) → errs_all env fail a xs os w ≡ errs_each env fail a (found_list put_locked xs os) w)
      → goes_on r (λ u. errs_all env fail a xs os) ≡ goes_on r (λ u. errs_each env fail a (found_list put_locked xs os))
  shown_at xs os (Ok u, w) h = h w
  shown_at xs os (Err e, w) h = refl

  all_shown : (xs : List Found) (os : List (Option ℕ)) (w : World) → errs_all env fail a xs os w ≡ errs_each env fail a (found_list put_locked xs os) w
  all_shown [] os w = refl
  all_shown (x ∷ xs) [] w = refl
  all_shown (x ∷ xs) (None ∷ os) w = all_shown xs os w
  all_shown (x ∷ xs) (Some at ∷ os) w =
      shown_at xs os (errs_where env fail a (record { rows = x.rows.now; bit = (spot_of x.spot).bit; at = at }) w) (all_shown xs os)

  push_at : (xs : List Found) (os : List (Option ℕ)) (x : Found) (o : Option ℕ) (r : Result (Unit {0}) Ended × World)
      → ((w : World) → errs_all env fail a (xs ++ x ∷ []) (os ++ o ∷ []) w
      ≡ goes_on (errs_all env fail a xs os w) (λ u. errs_found env fail a x.rows.now (spot_of x.spot).bit o))
      → goes_on r (λ u. errs_all env fail a (xs ++ x ∷ []) (os ++ o ∷ []))
      ≡ goes_on (goes_on r (λ u. errs_all env fail a xs os)) (λ u. errs_found env fail a x.rows.now (spot_of x.spot).bit o)
  push_at xs os x o (Ok u, w) h = h w
  push_at xs os x o (Err e, w) h = refl

  errs_push : (xs : List Found) (os : List (Option ℕ)) (x : Found) (o : Option ℕ) → length os ≡ length xs → (w : World)
      → errs_all env fail a (xs ++ x ∷ []) (os ++ o ∷ []) w
      ≡ goes_on (errs_all env fail a xs os w) (λ u. errs_found env fail a x.rows.now (spot_of x.spot).bit o)
  errs_push [] [] x o e w = done_last (errs_found env fail a x.rows.now (spot_of x.spot).bit o w)
  errs_push (y ∷ xs) (q ∷ os) x o e w = push_at xs os x o (errs_found env fail a y.rows.now (spot_of y.spot).bit q w) (errs_push xs os x o (omega (arith, e)))
  errs_push [] (q ∷ os) x o e w = absurd (omega (arith, e))
  errs_push (y ∷ xs) [] x o e w = absurd (omega (arith, e))

found_wide : (v : ℕ → Bool) (xs : List Found) (os : List (Option ℕ)) → AreFound v where_item xs os → length os ≡ length xs
found_wide v [] [] h = refl
found_wide v (x ∷ xs) (o ∷ os) h = ap suc (found_wide v xs os h.1)
found_wide v [] (o ∷ os) h = absurd h
found_wide v (x ∷ xs) [] h = absurd h

item_found : (v : ℕ → Bool) (xs : List Found) (os : List (Option ℕ)) (i : ℕ) (d : Found) → i < length xs → AreFound v where_item xs os
    → IsFound v (where_item (get_or xs i d)) (get_or os i None)
item_found v (x ∷ xs) (o ∷ os) zero d low h = h.0
item_found v (x ∷ xs) (o ∷ os) (suc i) d low h = item_found v xs os i d (omega (arith, low)) h.1
item_found v [] os i d low h = absurd (omega (arith, low))
item_found v (x ∷ xs) [] i d low h = absurd h

-- the errors of the first i items
pub record ErrsFirst (s : Source) (p : Layout) (ns : List Node) (given : List Gate) (i : ℕ) (items : List Found) (old new : List Location)
    (old_gates new_gates : Ends) : Type 0 where
  pub top : locations_top new ≤ length ns
  pub same : kinds new ≡ kinds old
  pub does : (bits : List Bool) (v : ℕ → Bool) → Runs ns (bit_at bits) v → length bits ≤ p.bits → (temps : List Cell) (turn : ℕ) (pos : Pos) (a : Acting)
      → number v given ≡ a.given → (os : List (Option ℕ)) → AreFound v where_item items os
      → Does v old old_gates (errs_all (env_of s p bits temps turn) (fails (env_of s p bits temps turn) pos) a (take i items) (take i os)) new new_gates
      (Any {A = Unit {0}})

pub first_none : (s : Source) (p : Layout) (ns : List Node) (given : List Gate) (items : List Found) (l : List Location) (g : Ends) → locations_top l ≤ length ns
    → ErrsFirst s p ns given 0 items l l g g
first_none s p ns given items l g top =
    record { top = top; same = refl; does = λ bits v runs few temps turn pos a same os found. does_done v l g tt (Any {A = Unit {0}}) tt }

pub first_step : (s : Source) (p : Layout) (n1 n2 : List Node) (given : List Gate) (i : ℕ) (items : List Found) (x : Found) (l0 l1 l2 : List Location)
    (g0 g1 g2 : Ends) → i < length items → x ≡ get_or items i x → Grown n1 n2 → ErrsFirst s p n1 given i items l0 l1 g0 g1
    → DoesErr s p n2 given x l1 l2 g1 g2 → ErrsFirst s p n2 given (i + 1) items l0 l2 g0 g2
first_step s p n1 n2 given i items x l0 l1 l2 g0 g1 g2 low here grown so_far one =
    record {
      top = one.top;
      same = one.same ∙ so_far.same;
      does = λ bits v runs few temps turn pos a same os found.
          let env = env_of s p bits temps turn in
          let fail = fails env pos in
          let before = grown.runs (bit_at bits) v runs in
          let o : Option ℕ = get_or os i None in
          let wide = found_wide v items os found in
          let within : i < length os = omega (arith, wide, low) in
          let here_too = subst (λ y. IsFound v (where_item y) o) (sym here) (item_found v items os i x low found) in
          let both = bind v l0 l1 l2 g0 g1 g2 (errs_all env fail a (take i items) (take i os))
          (λ u. errs_found env fail a x.rows.now (spot_of x.spot).bit o) (Any {A = Unit {0}}) (Any {A = Unit {0}})
          (so_far.does bits v before few temps turn pos a same os found) (λ u good. one.does bits v runs few temps turn pos a same o here_too) in
          let next = does_same v l0 l2 g0 g2
          (errs_all env fail a (take i items) (take i os) >>= λ u. errs_found env fail a x.rows.now (spot_of x.spot).bit o)
          (errs_all env fail a (take i items ++ x ∷ []) (take i os ++ o ∷ [])) (Any {A = Unit {0}})
          (λ w. sym (errs_push env fail a (take i items) (take i os) x o (length-take-le i os (omega (arith, within)) ∙ sym (length-take-le i items (omega (arith, low)))) w)) both in
          let items_more = take_more items i x low ∙ ap (λ y. take i items ++ y ∷ []) (sym here) in
          subst (λ ys. Does v l0 g0 (errs_all env fail a ys (take (i + 1) os)) l2 g2 (Any {A = Unit {0}})) (sym items_more)
          (subst (λ qs. Does v l0 g0 (errs_all env fail a (take i items ++ x ∷ []) qs) l2 g2 (Any {A = Unit {0}})) (sym (take_more os i None within)) next);
    }

pub errs_whole : (s : Source) (p : Layout) (ns : List Node) (c : Called) (i : ℕ) (l0 l1 : List Location) (g0 g1 : Ends) → length c.locks.now ≤ i
    → (n0 : List Node) → Grown n0 ns → IsCalled n0 c → ErrsFirst s p ns c.given.now i c.locks.now l0 l1 g0 g1 → DoesErrEach s p ns c l0 l1 g0 g1
errs_whole s p ns c i l0 l1 g0 g1 high n0 grown called h =
    record {
      top = h.top;
      same = h.same;
      does = λ bits v runs few temps turn pos cs met ls shown os ws.
          let env = env_of s p bits temps turn in
          let fail = fails env pos in
          let a : Acting = acting_of c cs ls os ws in
          let places = shown.places in
          let past : length places ≤ i = omega (arith, found_wide v c.locks.now places shown.found, high) in
          let given = called.given.value (bit_at bits) v (grown.runs (bit_at bits) v runs) cs met in
          let all = h.does bits v runs few temps turn pos a given places shown.found in
          let whole = subst (λ ys. Does v l0 g0 (errs_all env fail a ys places) l1 g1 (Any {A = Unit {0}})) (take_all i c.locks.now high)
          (subst (λ qs. Does v l0 g0 (errs_all env fail a (take i c.locks.now) qs) l1 g1 (Any {A = Unit {0}})) (take_all i places past) all) in
          subst (λ ys. Does v l0 g0 (errs_each env fail a ys) l1 g1 (Any {A = Unit {0}})) (sym shown.is)
          (does_same v l0 l1 g0 g1 (errs_all env fail a c.locks.now places) (errs_each env fail a (found_list put_locked c.locks.now places)) (Any {A = Unit {0}})
          (all_shown env fail a c.locks.now places) whole);
    }
