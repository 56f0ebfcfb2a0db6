-- What calls do.
use Rattle.std.proofs.Common.{◌≡◌, ℕ, zero, suc, ◌+◌, ◌-◌, ◌≤◌, ◌<◌, Bool, true, false, not, ◌||◌, ◌&&◌, List, [], ◌∷◌, map, length, refl, arith}
use Rattle.std.specs.Prelude.{Option, Some, None, nat_eq, nat_lt, slice_index_or, if◌then◌else◌}
use Rattle.std.specs.List.{AllByRecursion, list_all}
use Rattle.sc_base.specs.declared.pos.Pos.{Pos}
use Rattle.sc_tree.specs.declared.expr.Place.{Place}
use Rattle.fsm_spec.specs.Table.{target_of as state_from, on_any, bits_of_states}
use Rattle.run_store.specs.declared.Flag.TheVariants as flag
use Rattle.run_store.specs.Concrete.{Cell, Number, Nothing}
use Rattle.sum_rows.specs.declared.report.What.TheVariants as what
use Rattle.sum_rows.specs.declared.row.Item.{Item}
use Rattle.sum_rows.specs.declared.row.Item.TheVariants as item
use Rattle.sum_rows.specs.declared.row.ItemRows.{ItemRows}
use Rattle.sum_rows.specs.declared.row.State.{State}
use Rattle.sum_rows.specs.declared.row.State.TheVariants as state
use Rattle.sum_rows.specs.declared.row.Gives.{Gives}
use Rattle.sum_rows.specs.declared.row.Summary.{Summary}
use Rattle.sc_world.specs.declared.run.Reason.TheVariants as reason
use Rattle.sc_world.specs.Tree.{Ty, is_integer, is_pointer, int_bits, Exp}
use Rattle.sc_world.specs.Source.{Source, Effect, Operation, Try, Allocate, Release, Ends, Expect, Known, Unknown, called_name, sum_at}
use Rattle.sc_world.specs.Layout.{Layout, Occurrence, Placed, location, is_outer, occurrence_at, spot_at}
use Rattle.sc_world.specs.World.{World, Error, Inner, Run, Env, bit_at, number_at, any, null, target_of, target_or_null, root_of, states}
use Rattle.sc_world.specs.Known.{Locked, Outed, Written, count_items, is_lock, is_param, is_out_item, meet_twice, Given, given_int, given_pointer, given_nothing, given_by, given_number, state_after, from_state, lock_stands, locks_stand, params_stand, param_spot, out_stands, exit_rows, stands, row, set_states, mark_if, out_state, out_cell, set_out_as, set_outs, written_cell, set_written, set_writes, free_at, free, may_free, escape_at, escape, param_state, param_effect, param_acts, params_act, spot_behind, first_error, error_stands, Acting, effects, rows_stand, acts_as, Failing, errs, acts_unless, acts, known}
use Rattle.sc_world.specs.Eval.{first_arg, fails, target_from, zero_of, goes_to, operation, locked, tried, try, mark_object, allocate, escape_all, unknown, known_by, act, call}
use Rattle.run_laws.proofs.Steps.{Whatever, Leads, chain, gives, stops, either, either_as, requires, Inside, Rules}
use Rattle.run_laws.proofs.Places.{IfPlace, AreInside, place_named, null_inside, number_inside, nothing_inside, target_inside, if_inside}
use Rattle.run_laws.proofs.Values.{tree, stores, marks, asks, tells, state_asked, state_set, reaches, first_arg_inside}
use Rattle.run_laws.proofs.Paths.{finds_locks, OutInside, finds_outs, WrittenInside, finds_writes}

-- a number of bits names a state
pub number_names : (b : Bool) (k n : ℕ) → 0 < k → nat_lt n k ≡ b → (if b then n else (k - 1)) < k
number_names true k n pos e = less
  where
    less : n < k
    less = Rattle.std.proofs.Common.ltb-true n k e
number_names false k n pos e = omega (arith, pos)

module _ (s : Source) (p : Layout) (choice : List Bool) (temps : List Cell) (P : World → Type 0) (r : Rules s p temps P) where
  abbrev here : ℕ → Env
  here t = tree s p choice temps P r t

  abbrev Marks : Run (Unit {0}) → Type 0
  Marks m = Leads P Whatever m

  abbrev Does : Run Cell → Type 0
  Does m = Leads P (Inside p) m

  -- States.

  after_named : (t : ℕ) (l : Locked) → state_after (here t) l < states s
  after_named t l =
      number_names _ (states s) (number_at choice (l.bit + 1) (bits_of_states (states s))) (omega (arith, r.whole.least_states)) refl

  abbrev Named : List ℕ → Type 0
  Named ks = AllByRecursion (λ k. k < states s) ks

  all_named : (t : ℕ) (ls : List Locked) → Named (map (state_after (here t)) ls)
  all_named t [] = tt
  all_named t (l ∷ ls) = (after_named t l, all_named t ls)

  sets_states : (t : ℕ) (ks : List ℕ) (ls : List Locked) → Named ks → Marks (set_states (here t) ks ls)
  sets_states t ks [] h = gives P tt
  sets_states t [] (l ∷ ls) h = gives P tt
  sets_states t (k ∷ ks) (l ∷ ls) h =
      chain P (state_set s p choice temps P r t l.at k h.0)
      (λ _ _. chain P (marks s p choice temps P r l.at flag.Touched) (λ _ _. sets_states t ks ls h.1))

  -- Effects of known calls.

  pub marks_if : (o : Option ℕ) (k : State) → Marks (mark_if o k)
  marks_if None k = gives P tt
  marks_if (Some at) state.Fresh = marks s p choice temps P r at flag.Allocated
  marks_if (Some at) state.Other = marks s p choice temps P r at flag.Escaped
  marks_if (Some at) state.Nil = gives P tt
  marks_if (Some at) (state.At n) = gives P tt
  marks_if (Some at) state.Bad = gives P tt
  marks_if (Some at) state.Held = gives P tt
  marks_if (Some at) state.Escaped = gives P tt
  marks_if (Some at) state.Freed = gives P tt
  marks_if (Some at) state.Null = gives P tt
  marks_if (Some at) state.Same = gives P tt

  -- what is stored in a pointer behind a parameter
  sets_out : (n : ℕ) (o : Outed) → OutInside s p choice temps P r o → Marks (set_out_as (out_state n) o)
  sets_out zero o h =
      chain P (stores s p choice temps P r o.at (out_cell state.Null o.object) h.at (null_inside p)) (λ _ _. marks_if o.object state.Null)
  sets_out (suc zero) o h =
      chain P (stores s p choice temps P r o.at (out_cell state.Fresh o.object) h.at (target_inside p o.object h.object))
      (λ _ _. marks_if o.object state.Fresh)
  sets_out (suc (suc zero)) o h =
      chain P (stores s p choice temps P r o.at (out_cell state.Other o.object) h.at (target_inside p o.object h.object))
      (λ _ _. marks_if o.object state.Other)
  sets_out (suc (suc (suc n))) o h = gives P tt

  sets_outs : (t : ℕ) (os : List Outed) → AllByRecursion (OutInside s p choice temps P r) os → Marks (set_outs (here t) os)
  sets_outs t [] h = gives P tt
  sets_outs t (o ∷ os) h = chain P (sets_out (number_at choice o.bit 2) o h.0) (λ _ _. sets_outs t os h.1)

  written_inside : (t : ℕ) (x : Written) → WrittenInside s p choice temps P r x → Inside p (written_cell (here t) x)
  written_inside t x h =
      if_inside p (nat_eq x.width 0) (if bit_at choice x.bit then target_or_null x.object else null)
      (Number x.width (number_at choice x.bit x.width))
      (if_inside p (bit_at choice x.bit) (target_or_null x.object) null (target_inside p x.object h.object) (null_inside p))
      (number_inside p x.width (number_at choice x.bit x.width))

  sets_written : (t : ℕ) (x : Written) → WrittenInside s p choice temps P r x → Marks (set_written (here t) x)
  sets_written t x h =
      either P _ (stores s p choice temps P r x.at (written_cell (here t) x) h.at (written_inside t x h)) (gives P tt)

  sets_writes : (t : ℕ) (ws : List Written) → AllByRecursion (WrittenInside s p choice temps P r) ws → Marks (set_writes (here t) ws)
  sets_writes t [] h = gives P tt
  sets_writes t (x ∷ xs) h = chain P (sets_written t x h.0) (λ _ _. sets_writes t xs h.1)

  frees_at : (t target : ℕ) → Marks (free_at (here t) target)
  frees_at t zero = gives P tt
  frees_at t (suc at) =
      chain P (asks s p choice temps P r (root_of (here t) at) flag.Freed)
      (λ b _. chain P (requires P (not b && may_free (location p at) at) reason.Freed)
      (λ _ _. marks s p choice temps P r at flag.Freed))

  pub frees : (t : ℕ) (c : Cell) → Marks (free (here t) c)
  frees t c = frees_at t (target_of c)

  escapes_at : (t target : ℕ) → Marks (escape_at (here t) target)
  escapes_at t zero = gives P tt
  escapes_at t (suc at) = marks s p choice temps P r (root_of (here t) at) flag.Escaped

  pub escapes : (t : ℕ) (c : Cell) → Marks (escape (here t) c)
  escapes t c = escapes_at t (target_of c)

  param_does : (t n : ℕ) (c : Cell) → Marks (param_effect (here t) (param_state n) c)
  param_does t zero c = gives P tt
  param_does t (suc zero) c = escapes t c
  param_does t (suc (suc zero)) c = frees t c
  param_does t (suc (suc (suc n))) c = gives P tt

  param_done : (t : ℕ) (vs : List Cell) (k : ℕ) (x : Item) → Marks (param_acts (here t) vs k x)
  param_done t vs k (item.Param n) = param_does t (number_at choice (spot_at p k).bit 2) (slice_index_or vs n null)
  param_done t vs k item.Exit = gives P tt
  param_done t vs k (item.Lock x) = gives P tt
  param_done t vs k (item.Out n) = gives P tt

  params_done : (t : ℕ) (vs : List Cell) (k : ℕ) (xs : List ItemRows) → Marks (params_act (here t) vs k xs)
  params_done t vs k [] = gives P tt
  params_done t vs k (x ∷ xs) =
      chain P (param_done t vs k x.item) (λ _ _. params_done t vs (spot_behind (is_param x.item) k) xs)

  -- Rows.

  lock_row_asked : (t n : ℕ) (g : Gives) (l : Locked) → Leads P Whatever (lock_stands (here t) n g l)
  lock_row_asked t n g l =
      chain P (state_asked s p choice temps P r t l.at)
      (λ k _. gives P {a = from_state (here t) n k g (state.At (state_after (here t) l)) l.rows} tt)

  lock_rows_asked : (t n : ℕ) (g : Gives) (ls : List Locked) → Leads P Whatever (locks_stand (here t) n g ls)
  lock_rows_asked t n g [] = gives P tt
  lock_rows_asked t n g (l ∷ ls) =
      chain P (lock_row_asked t n g l) (λ a _. chain P (lock_rows_asked t n g ls) (λ b _. gives P {a = a && b} tt))

  rows_asked : (t : ℕ) (a : Acting) (g : Given) → Leads P Whatever (rows_stand (here t) a g)
  rows_asked t a g =
      chain P (lock_rows_asked t a.given g.result a.locks)
      (λ b _. gives P
      {a = stands (row a.given state.Nil g.result g.kind) (exit_rows a.summary.items)
      && (b && (params_stand (here t) a.args a.given g.result (param_spot a) a.summary.items
      && list_all (out_stands (here t) a.given g.result) a.outs))} tt)

  -- A known call.

  pub record ActsInside (a : Acting) : Type 0 where
    pub args : AreInside p a.args
    pub outs : AllByRecursion (OutInside s p choice temps P r) a.outs
    pub writes : AllByRecursion (WrittenInside s p choice temps P r) a.writes
    pub object : IfPlace p a.occurrence.object

  -- what is given as a value, if anything
  abbrev pub IfGiven : (Cell → Type 0) → Option Given → Type 0
  IfGiven Q None = Unit {0}
  IfGiven Q (Some g) = Q g.value

  pub pointer_given : (Q : Cell → Type 0) (n : ℕ) (o : Option ℕ) → Q null → Q (target_or_null o) → IfGiven Q (given_pointer n o)
  pointer_given Q zero o h i = h
  pointer_given Q (suc zero) o h i = i
  pointer_given Q (suc (suc zero)) o h i = i
  pointer_given Q (suc (suc (suc n))) o h i = tt

  if_given : (Q : Cell → Type 0) (b : Bool) (g h : Option Given) → (b ≡ true → IfGiven Q g) → (b ≡ false → IfGiven Q h)
      → IfGiven Q (if b then g else h)
  if_given Q true g h i j = i refl
  if_given Q false g h i j = j refl

  -- what the choice may give as a result of that type, and what an unknown call gives
  pub record Results (Q : Cell → Type 0) (y : Ty) (o : Option ℕ) : Type 0 where
    pub number : is_integer y ≡ true → (n : ℕ) → Q (Number (int_bits s.widths y) n)
    pub null : is_pointer y ≡ true → Q null
    pub object : is_pointer y ≡ true → Q (target_or_null o)
    pub nothing : is_integer y ≡ false → is_pointer y ≡ false → Q Nothing

  what_given : (Q : Cell → Type 0) (t : ℕ) (o : Occurrence) (y : Ty) → Results Q y o.object → IfGiven Q (given_by (here t) o y)
  what_given Q t o y h =
      if_given Q (is_integer y) (Some (given_int (int_bits s.widths y) (number_at choice o.bit (int_bits s.widths y))))
      (if is_pointer y then given_pointer (number_at choice o.bit 2) o.object else Some given_nothing)
      (λ e. h.number e (number_at choice o.bit (int_bits s.widths y)))
      (λ e. if_given Q (is_pointer y) (given_pointer (number_at choice o.bit 2) o.object) (Some given_nothing)
      (λ f. pointer_given Q (number_at choice o.bit 2) o.object (h.null f) (h.object f)) (λ f. h.nothing e f))

  takes_effect : (Q : Cell → Type 0) (t : ℕ) (a : Acting) (g : Given) (ks : List ℕ) → ActsInside a → Q g.value → Named ks
      → Leads P Q (effects (here t) a g ks)
  takes_effect Q t a g ks h hg hk =
      chain P (sets_states t ks a.locks hk)
      (λ _ _. chain P (sets_outs t a.outs h.outs)
      (λ _ _. chain P (sets_writes t a.writes h.writes)
      (λ _ _. chain P (params_done t a.args (param_spot a) a.summary.items)
      (λ _ _. chain P (marks_if g.object g.kind) (λ _ _. gives P hg)))))

  acts_given : (Q : Cell → Type 0) (t : ℕ) (a : Acting) (g : Option Given) → ActsInside a → IfGiven Q g
      → Leads P Q (acts_as (here t) a g)
  acts_given Q t a None h hg = stops P
  acts_given Q t a (Some g) h hg =
      chain P (rows_asked t a g)
      (λ b _. chain P (requires P b reason.NoRow)
      (λ _ _. takes_effect Q t a g (map (state_after (here t)) a.locks) h hg (all_named t a.locks)))

  errs_there : (Q : Cell → Type 0) (t : ℕ) (f : Failing) (a : Acting) (l : Locked) → ((at : ℕ) → Leads P Q (f at))
      → Leads P Q (errs (here t) f a l)
  errs_there Q t f a l hf =
      chain P (state_asked s p choice temps P r t l.at)
      (λ k _. chain P (requires P (error_stands a.given k l) reason.NoRow)
      (λ _ _. chain P (marks s p choice temps P r l.at flag.Touched) (λ _ _. hf l.at)))

  acts_or_errs : (Q : Cell → Type 0) (t : ℕ) (f : Failing) (y : Ty) (a : Acting) (o : Option Locked) → ActsInside a
      → Results Q y a.occurrence.object → ((at : ℕ) → Leads P Q (f at)) → Leads P Q (acts_unless (here t) f y a o)
  acts_or_errs Q t f y a (Some l) h hr hf = errs_there Q t f a l hf
  acts_or_errs Q t f y a None h hr hf =
      acts_given Q t a (given_by (here t) a.occurrence y) h (what_given Q t a.occurrence y hr)

  acts_inside : (Q : Cell → Type 0) (t : ℕ) (f : Failing) (y : Ty) (a : Acting) → ActsInside a → Results Q y a.occurrence.object
      → ((at : ℕ) → Leads P Q (f at)) → Leads P Q (acts (here t) f y a)
  acts_inside Q t f y a h hr hf =
      chain P (requires P (not (meet_twice (map (λ l. l.at) a.locks) || meet_twice (map (λ o. o.at) a.outs))) reason.Alias)
      (λ _ _. acts_or_errs Q t f y a (first_error (here t) a.locks) h hr hf)

  knows : (Q : Cell → Type 0) (t : ℕ) (f : Failing) (o : Occurrence) (y : Ty) (sum : Summary) (vs : List Cell) → IfPlace p o.object
      → AreInside p vs → Results Q y o.object → ((at : ℕ) → Leads P Q (f at)) → Leads P Q (known (here t) f o y sum vs)
  knows Q t f o y sum vs ho hs hr hf =
      chain P (finds_locks s p choice temps P r t vs hs o.spot sum.items)
      (λ ls _. chain P
      (finds_outs s p choice temps P r t vs hs (o.spot + (count_items is_lock sum.items + count_items is_param sum.items)) sum.items)
      (λ os hos. chain P
      (finds_writes s p choice temps P r t vs hs sum.items
      (o.spot + (count_items is_lock sum.items + (count_items is_param sum.items + count_items is_out_item sum.items))) sum.writes)
      (λ ws hws. acts_inside Q t f y
      (record { summary = sum; occurrence = o; args = vs; given = given_number vs; locks = ls; outs = os; writes = ws })
      (record { args = hs; outs = hos; writes = hws; object = ho }) hr hf)))

  -- Other calls.

  fails_at : (Q : Cell → Type 0) (t : ℕ) (q : Pos) (at : ℕ) → Leads P Q (fails (here t) q at)
  fails_at Q t q at =
      chain P (tells s p choice temps P r q (what.Bad at))
      (λ _ _. stops P {e = if is_outer (location p at) then Error at else Inner at})

  pub zero_has : (Q : Cell → Type 0) (t : ℕ) (y : Ty) → (is_integer y ≡ true → Q (Number (int_bits s.widths y) 0))
      → (is_integer y ≡ false → Q Nothing) → Q (zero_of (here t) y)
  zero_has Q t y h i = if_has (is_integer y) h i
    where
      if_has : (b : Bool) → (b ≡ true → Q (Number (int_bits s.widths y) 0)) → (b ≡ false → Q Nothing)
          → Q (if b then Number (int_bits s.widths y) 0 else Nothing)
      if_has true h i = h refl
      if_has false h i = i refl

  IfState : Option ℕ → Type 0
  IfState None = Unit {0}
  IfState (Some k) = k < states s

  goes_there : (Q : Cell → Type 0) (t : ℕ) (q : Pos) (y : Ty) (at : ℕ) (o : Option ℕ) → IfState o → Q (zero_of (here t) y)
      → Leads P Q (goes_to (here t) q y at o)
  unfolding IfState
  goes_there Q t q y at None h hz = fails_at Q t q at
  goes_there Q t q y at (Some k) h hz = chain P (state_set s p choice temps P r t at k h) (λ _ _. gives P hz)

  state_if : (o : Option ℕ) → ((k : ℕ) → o ≡ Some k → k < states s) → IfState o
  unfolding IfState
  state_if None h = tt
  state_if (Some k) h = h k refl

  if_state : (b : Bool) (o o' : Option ℕ) → IfState o → IfState o' → IfState (if b then o else o')
  if_state true o o' h i = h
  if_state false o o' h i = i

  target_state : (t n k : ℕ) → IfState (target_from (here t) n k)
  target_state t n k =
      if_state (nat_eq k any) (on_any s.machine n) (state_from s.machine n k)
      (state_if (on_any s.machine n) (r.whole.any_in_range n))
      (state_if (state_from s.machine n k) (r.whole.in_range n k))

  pub operates_on : (Q : Cell → Type 0) (t : ℕ) (q : Pos) (y : Ty) (n : ℕ) (c : Cell) → Inside p c → Q (zero_of (here t) y)
      → Leads P Q (operation (here t) q y n c)
  operates_on Q t q y n c h hz =
      chain P (reaches s p choice temps P r t c h)
      (λ at _. chain P (marks s p choice temps P r at flag.Touched)
      (λ _ _. chain P (state_asked s p choice temps P r t at)
      (λ k _. goes_there Q t q y at (target_from (here t) n k) (target_state t n k) hz)))

  tries_by : (Q : Cell → Type 0) (t : ℕ) (y : Ty) (a b at : ℕ) (can : Bool) → ((n : ℕ) → Q (Number (int_bits s.widths y) n))
      → Leads P Q (tried (here t) y a b at can)
  tries_by Q t y a b at true hq =
      chain P (state_set s p choice temps P r t at locked (omega (arith, r.whole.least_states))) (λ _ _. gives P (hq a))
  tries_by Q t y a b at false hq = gives P (hq b)

  pub tries : (Q : Cell → Type 0) (t : ℕ) (y : Ty) (o : Occurrence) (a b : ℕ) (c : Cell) → Inside p c
      → ((n : ℕ) → Q (Number (int_bits s.widths y) n)) → Leads P Q (try (here t) y o a b c)
  tries Q t y o a b c h hq =
      chain P (reaches s p choice temps P r t c h)
      (λ at _. chain P (marks s p choice temps P r at flag.Touched)
      (λ _ _. chain P (state_asked s p choice temps P r t at)
      (λ k _. tries_by Q t y a b at (not (nat_eq k locked) && bit_at choice o.bit) hq)))

  marks_object : (o : Option ℕ) → Marks (mark_object o)
  marks_object None = gives P tt
  marks_object (Some at) = marks s p choice temps P r at flag.Allocated

  pub allocates : (Q : Cell → Type 0) (t : ℕ) (o : Occurrence) → Q (target_or_null o.object) → Q null → Leads P Q (allocate (here t) o)
  allocates Q t o h i =
      either P (bit_at choice o.bit) (chain P (marks_object o.object) (λ _ _. gives P h)) (gives P i)

  escapes_all : (t : ℕ) (vs : List Cell) → Marks (escape_all (here t) vs)
  escapes_all t [] = gives P tt
  escapes_all t (v ∷ vs) = chain P (escapes t v) (λ _ _. escapes_all t vs)

  pub unknowns : (Q : Cell → Type 0) (t : ℕ) (o : Occurrence) (y : Ty) (vs : List Cell) → Results Q y o.object
      → Leads P Q (unknown (here t) o y vs)
  unknowns Q t o y vs h =
      chain P (escapes_all t vs)
      (λ _ _. either_as P (is_integer y) (λ e. gives P (h.number e (number_at choice o.bit (int_bits s.widths y))))
      (λ e. either_as P (is_pointer y)
      (λ f. either P (bit_at choice o.bit)
      (chain P (escapes t (target_or_null o.object)) (λ _ _. gives P (h.object f))) (gives P (h.null f)))
      (λ f. gives P (h.nothing e f))))

  pub knows_by : (Q : Cell → Type 0) (t : ℕ) (q : Pos) (y : Ty) (o : Occurrence) (vs : List Cell) (sum : Option Summary)
      → IfPlace p o.object → AreInside p vs → Results Q y o.object → Leads P Q (known_by (here t) q y o vs sum)
  knows_by Q t q y o vs None ho hs hr = unknowns Q t o y vs hr
  knows_by Q t q y o vs (Some sum) ho hs hr = knows Q t (fails (here t) q) o y sum vs ho hs hr (fails_at Q t q)

  -- every result that may be given points into the layout
  results_inside : (y : Ty) (o : Option ℕ) → IfPlace p o → Results (Inside p) y o
  results_inside y o h = record {
    number = λ _ n. number_inside p (int_bits s.widths y) n;
    null = λ _. null_inside p;
    object = λ _. target_inside p o h;
    nothing = λ _ _. nothing_inside p;
  }

  zero_inside : (t : ℕ) (y : Ty) → Inside p (zero_of (here t) y)
  zero_inside t y = zero_has (Inside p) t y (λ _. number_inside p (int_bits s.widths y) 0) (λ _. nothing_inside p)

  does_act : (t : ℕ) (q : Pos) (y : Ty) (o : Occurrence) (vs : List Cell) (e : Effect) → IfPlace p o.object → AreInside p vs
      → Does (act (here t) q y o vs e)
  does_act t q y o vs (Operation n) ho hs =
      operates_on (Inside p) t q y n (first_arg vs) (first_arg_inside s p choice temps P r vs hs) (zero_inside t y)
  does_act t q y o vs (Try a b) ho hs =
      tries (Inside p) t y o a b (first_arg vs) (first_arg_inside s p choice temps P r vs hs)
      (λ n. number_inside p (int_bits s.widths y) n)
  does_act t q y o vs (Allocate zeroed) ho hs = allocates (Inside p) t o (target_inside p o.object ho) (null_inside p)
  does_act t q y o vs Release ho hs = chain P (frees t (first_arg vs)) (λ _ _. gives P (nothing_inside p))
  does_act t q y o vs Ends ho hs = stops P
  does_act t q y o vs Expect ho hs = gives P (first_arg_inside s p choice temps P r vs hs)
  does_act t q y o vs (Known k) ho hs = knows_by (Inside p) t q y o vs (sum_at s k) ho hs (results_inside y o.object ho)
  does_act t q y o vs Unknown ho hs = unknowns (Inside p) t o y vs (results_inside y o.object ho)

  pub calls : (t : ℕ) (x : Place) (f : Exp) (y : Ty) (c : Placed) (vs : List Cell) → AreInside p vs → Does (call (here t) x f y c vs)
  calls t x f y c vs hs =
      chain P (tells s p choice temps P r x.first (what.Call (called_name f)))
      (λ _ _. does_act t x.first y (occurrence_at p c t) vs c.site.effect
      (place_named p (occurrence_at p c t).object (r.closed.objects (c.first + t))) hs)
