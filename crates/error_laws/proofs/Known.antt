-- Calls that act by a summary.
use Rattle.std.proofs.Common.{◌≡◌, ℕ, zero, suc, ◌+◌, ◌<◌, ◌⊎◌, inl, inr, Bool, true, false, not, ◌&&◌, ◌||◌, List, [], ◌∷◌, map, length, refl, subst, true≢false, arith}
use Rattle.std.specs.Prelude.{Option, Some, None, slice_index_or, if◌then◌else◌}
use Rattle.std.specs.List.{AllByRecursion, list_all}
use Rattle.run_store.specs.declared.Flag.TheVariants as flag
use Rattle.run_store.specs.Concrete.{Cell}
use Rattle.sum_rows.specs.declared.path.Path.{Path}
use Rattle.sum_rows.specs.declared.path.Root.{Root}
use Rattle.sum_rows.specs.declared.path.Root.TheVariants as root
use Rattle.sum_rows.specs.declared.path.Step.{Step}
use Rattle.sum_rows.specs.declared.path.Step.TheVariants as step
use Rattle.sum_rows.specs.declared.row.Item.{Item}
use Rattle.sum_rows.specs.declared.row.Item.TheVariants as item
use Rattle.sum_rows.specs.declared.row.ItemRows.{ItemRows}
use Rattle.sum_rows.specs.declared.row.Row.{Row}
use Rattle.sum_rows.specs.declared.row.State.{State}
use Rattle.sum_rows.specs.declared.row.State.TheVariants as state
use Rattle.sum_rows.specs.declared.row.Gives.{Gives}
use Rattle.sum_rows.specs.declared.row.Summary.{Summary}
use Rattle.sum_rows.specs.declared.row.Write.{Write}
use Rattle.sc_world.specs.declared.run.Origin.{Origin}
use Rattle.sc_world.specs.declared.run.Origin.TheVariants as origin
use Rattle.sc_world.specs.declared.run.Reason.TheVariants as reason
use Rattle.sc_world.specs.Tree.{Ty}
use Rattle.sc_world.specs.Layout.{Layout, Location, Occurrence, location, location_of, is_stub, is_pointer_cell, is_part_of, same_origin, part, first_where, or_zero, spot_at}
use Rattle.sc_world.specs.Occurrences.{is_out_path}
use Rattle.sc_world.specs.World.{Run, Env, bit_at, number_at, null, target_of, root_of}
use Rattle.sc_world.specs.Known.{usable, Come, At, Holds, pointed, stepped, at_end, onwards, follow, begin, follow_path, Locked, with_locked, locked_item, is_lock, is_param, is_out_item, spot_behind, locks, count_items, Outed, with_out, pointer_cell_if, out_item, outs, Written, with_written, writes, meet_twice, Given, given_by, given_number, state_after, from_state, lock_stands, locks_stand, params_stand, param_spot, out_stands, exit_rows, stands, row, set_states, mark_if, out_state, out_cell, set_out_as, set_outs, written_cell, set_written, set_writes, free_at, free, may_free, escape_at, escape, param_state, param_effect, param_acts, params_act, first_error, error_stands, Acting, effects, rows_stand, acts_as, Failing, errs, acts_unless, acts, known}
use Rattle.error_laws.specs.Errors.{is_param as of_param, is_of_param, is_of_params}
use Rattle.error_laws.proofs.Steps.{Whatever, Leads, chain, gives, stops, either, either_as, requires, loads, stores, marks, asks, state_asked, state_set, within}

-- Places.

abbrev pub IfBelow : ℕ → Option ℕ → Type 0
IfBelow m None = Unit {0}
IfBelow m (Some at) = at < m

below_if : (b : Bool) (m k : ℕ) (o : Option ℕ) → k < m → IfBelow m o → IfBelow m (if b then Some k else o)
below_if true m k o h i = h
below_if false m k o h i = i

first_below : (test : Location → Bool) (k : ℕ) (ls : List Location) → IfBelow (k + length ls) (first_where test k ls)
first_below test k [] = tt
first_below test k (l ∷ ls) =
    below_if (test l) (k + length (l ∷ ls)) k (first_where test (k + 1) ls) (omega arith)
    (subst (λ m. IfBelow m (first_where test (k + 1) ls)) (omega arith) (first_below test (k + 1) ls))

part_there : (p : Layout) (at : ℕ) (s : Step) → IfBelow (length p.locations) (part p at s)
part_there p at s =
    subst (λ m. IfBelow m (part p at s)) (omega arith) (first_below (λ l. is_part_of at s l.origin) 0 p.locations)

zero_or_below : (m : ℕ) (o : Option ℕ) → 0 < m → IfBelow m o → or_zero o < m
zero_or_below m None some h = some
zero_or_below m (Some at) some h = h

origin_there : (p : Layout) (o : Origin) → 0 < length p.locations → location_of p o < length p.locations
origin_there p o some =
    zero_or_below (length p.locations) (first_where (λ l. same_origin o l.origin) 0 p.locations) some
    (subst (λ m. IfBelow m (first_where (λ l. same_origin o l.origin) 0 p.locations)) (omega arith)
    (first_below (λ l. same_origin o l.origin) 0 p.locations))

-- Objects.

frees_at : (env : Env) (target : ℕ) → Leads env.layout Whatever (free_at env target)
frees_at env zero = gives env.layout tt
frees_at env (suc at) =
    chain env.layout (asks env.layout (root_of env at) flag.Freed)
    (λ b _. chain env.layout (requires env.layout (not b && may_free (location env.layout at) at) reason.Freed)
    (λ _ _. marks env.layout at flag.Freed))

pub frees : (env : Env) (c : Cell) → Leads env.layout Whatever (free env c)
frees env c = frees_at env (target_of c)

escapes_at : (env : Env) (target : ℕ) → Leads env.layout Whatever (escape_at env target)
escapes_at env zero = gives env.layout tt
escapes_at env (suc at) = marks env.layout (root_of env at) flag.Escaped

pub escapes : (env : Env) (c : Cell) → Leads env.layout Whatever (escape env c)
escapes env c = escapes_at env (target_of c)

-- What may be followed: all of a layout that has a location; else what does not begin at a global.

abbrev pub May : Layout → Bool → Type 0
May p b = (0 < length p.locations) ⊎ (b ≡ true)

pub both_left : (a b : Bool) → (a && b) ≡ true → a ≡ true
both_left true b h = refl
both_left false b h = absurd (true≢false (cc))

pub both_right : (a b : Bool) → (a && b) ≡ true → b ≡ true
both_right true b h = h
both_right false b h = absurd (true≢false (cc))

may_left : (p : Layout) (a b : Bool) → May p (a && b) → May p a
may_left p a b (inl some) = inl some
may_left p a b (inr h) = inr (both_left a b h)

may_right : (p : Layout) (a b : Bool) → May p (a && b) → May p b
may_right p a b (inl some) = inl some
may_right p a b (inr h) = inr (both_right a b h)

module _ (env : Env) where
  abbrev Marks : Run (Unit {0}) → Type 0
  Marks m = Leads env.layout Whatever m

  abbrev pub IfThere : Option ℕ → Type 0
  IfThere o = IfBelow (length env.layout.locations) o

  -- Paths.

  unless_freed : (b : Bool) (at : ℕ) → at < length env.layout.locations → IfThere (if b then None else Some at)
  unless_freed true at h = tt
  unless_freed false at h = h

  no_stub : (b : Bool) → b ≡ false → not b ≡ true
  no_stub true h = absurd (true≢false h)
  no_stub false h = refl

  usables : (target : ℕ) → Leads env.layout IfThere (usable env target)
  usables zero = gives env.layout {a = None} tt
  usables (suc at) =
      either_as env.layout (is_stub (location env.layout at)) (λ _. gives env.layout {a = None} tt)
      (λ h. chain env.layout (asks env.layout (root_of env at) flag.Freed)
      (λ b _. gives env.layout {a = if b then None else Some at}
      (unless_freed b at (within env.layout.locations at (no_stub (is_stub (location env.layout at)) h)))))

  abbrev ComesThere : Come → Type 0
  ComesThere (At at) = at < length env.layout.locations
  ComesThere (Holds c) = Unit {0}

  points : (c : Come) → Leads env.layout IfThere (pointed env c)
  points (Holds c) = usables (target_of c)
  points (At at) =
      either env.layout (is_pointer_cell (location env.layout at))
      (chain env.layout (loads env.layout at) (λ c _. usables (target_of c)))
      (gives env.layout {a = None} tt)

  steps : (s : Step) (c : Come) → Leads env.layout IfThere (stepped env s c)
  steps step.Deref c = points c
  steps (step.Field n) (At at) = gives env.layout {a = part env.layout at (step.Field n)} (part_there env.layout at (step.Field n))
  steps (step.Elem n) (At at) = gives env.layout {a = part env.layout at (step.Elem n)} (part_there env.layout at (step.Elem n))
  steps (step.Field n) (Holds c) = gives env.layout {a = None} tt
  steps (step.Elem n) (Holds c) = gives env.layout {a = None} tt

  ends_there : (c : Come) → ComesThere c → IfThere (at_end c)
  ends_there (At at) h = h
  ends_there (Holds c) h = tt

  goes_onwards : (o : Option ℕ) (f : Come → Run (Option ℕ)) → IfThere o → ((c : Come) → ComesThere c → Leads env.layout IfThere (f c))
      → Leads env.layout IfThere (onwards o f)
  goes_onwards None f h hf = gives env.layout {a = None} tt
  goes_onwards (Some at) f h hf = hf (At at) h

  follows : (ss : List Step) (c : Come) → ComesThere c → Leads env.layout IfThere (follow env ss c)
  follows [] c h = gives env.layout {a = at_end c} (ends_there c h)
  follows (s ∷ ss) c h = chain env.layout (steps s c) (λ to hto. goes_onwards to (follow env ss) hto (λ d hd. follows ss d hd))

  begins : (vs : List Cell) (r : Root) → May env.layout (of_param r) → ComesThere (begin env vs r)
  begins vs (root.Param n) may = tt
  begins vs (root.Global n) (inl some) = origin_there env.layout (origin.Global n) some
  begins vs (root.Global n) (inr h) = absurd (true≢false (cc))

  finds : (vs : List Cell) (x : Path) → May env.layout (of_param x.root) → Leads env.layout IfThere (follow_path env vs x)
  finds vs x may = follows x.steps (begin env vs x.root) (begins vs x.root may)

  -- a path that is followed to wherever it leads
  wanders_on : (o : Option ℕ) (f : Come → Run (Option ℕ)) → ((c : Come) → Leads env.layout Whatever (f c)) → Leads env.layout Whatever (onwards o f)
  wanders_on None f hf = gives env.layout {a = None} tt
  wanders_on (Some at) f hf = hf (At at)

  wanders : (ss : List Step) (c : Come) → Leads env.layout Whatever (follow env ss c)
  wanders [] c = gives env.layout {a = at_end c} tt
  wanders (s ∷ ss) c = chain env.layout (steps s c) (λ to _. wanders_on to (follow env ss) (λ d. wanders ss d))

  -- Items.

  abbrev AreThere : List Locked → Type 0
  AreThere ls = AllByRecursion (λ l. l.at < length env.layout.locations) ls

  finds_item : (vs : List Cell) (k : ℕ) (x : Item) → May env.layout (is_of_param x) → Leads env.layout IfThere (locked_item env vs k x)
  finds_item vs k (item.Lock x) may = finds vs x may
  finds_item vs k item.Exit may = gives env.layout {a = None} tt
  finds_item vs k (item.Param n) may = gives env.layout {a = None} tt
  finds_item vs k (item.Out n) may = gives env.layout {a = None} tt

  with_item : (rows : List Row) (bit : ℕ) (o : Option ℕ) (ls : List Locked) → IfThere o → AreThere ls → AreThere (with_locked rows bit o ls)
  with_item rows bit None ls h hs = hs
  with_item rows bit (Some at) ls h hs = (h, hs)

  abbrev AreOfParams : List ItemRows → Bool
  AreOfParams xs = list_all (λ (x : ItemRows). is_of_param x.item) xs

  finds_locks : (vs : List Cell) (k : ℕ) (xs : List ItemRows) → May env.layout (AreOfParams xs) → Leads env.layout AreThere (locks env vs k xs)
  finds_locks vs k [] may = gives env.layout {a = []} tt
  finds_locks vs k (x ∷ xs) may =
      chain env.layout (finds_item vs k x.item (may_left env.layout (is_of_param x.item) (AreOfParams xs) may))
      (λ o ho. chain env.layout (finds_locks vs (spot_behind (is_lock x.item) k) xs (may_right env.layout (is_of_param x.item) (AreOfParams xs) may))
      (λ ls hs. gives env.layout {a = with_locked x.rows (spot_at env.layout k).bit o ls} (with_item x.rows (spot_at env.layout k).bit o ls ho hs)))

  finds_out : (vs : List Cell) (x : Item) → Leads env.layout Whatever (out_item env vs x)
  finds_out vs (item.Out n) =
      chain env.layout (usables (target_of (slice_index_or vs n null))) (λ at _. gives env.layout {a = pointer_cell_if env at} tt)
  finds_out vs item.Exit = gives env.layout {a = None} tt
  finds_out vs (item.Param n) = gives env.layout {a = None} tt
  finds_out vs (item.Lock x) = gives env.layout {a = None} tt

  finds_outs : (vs : List Cell) (k : ℕ) (xs : List ItemRows) → Leads env.layout Whatever (outs env vs k xs)
  finds_outs vs k [] = gives env.layout {a = []} tt
  finds_outs vs k (x ∷ xs) =
      chain env.layout (finds_out vs x.item)
      (λ o _. chain env.layout (finds_outs vs (spot_behind (is_out_item x.item) k) xs)
      (λ os _. gives env.layout {a = with_out x.rows (spot_at env.layout k) o os} tt))

  finds_writes : (vs : List Cell) (items : List ItemRows) (k : ℕ) (xs : List Write) → Leads env.layout Whatever (writes env vs items k xs)
  finds_writes vs items k [] = gives env.layout {a = []} tt
  finds_writes vs items k (x ∷ xs) =
      either env.layout (is_out_path items x.path) (finds_writes vs items k xs)
      (chain env.layout (wanders x.path.steps (begin env vs x.path.root))
      (λ o _. chain env.layout (finds_writes vs items (k + 1) xs)
      (λ ws _. gives env.layout {a = with_written x.width (spot_at env.layout k) o ws} tt)))

  -- Effects.

  sets_states : (ks : List ℕ) (ls : List Locked) → Marks (set_states env ks ls)
  sets_states ks [] = gives env.layout tt
  sets_states [] (l ∷ ls) = gives env.layout tt
  sets_states (k ∷ ks) (l ∷ ls) =
      chain env.layout (state_set env l.at k) (λ _ _. chain env.layout (marks env.layout l.at flag.Touched) (λ _ _. sets_states ks ls))

  marks_if : (o : Option ℕ) (k : State) → Marks (mark_if o k)
  marks_if None k = gives env.layout tt
  marks_if (Some at) state.Fresh = marks env.layout at flag.Allocated
  marks_if (Some at) state.Other = marks env.layout at flag.Escaped
  marks_if (Some at) state.Nil = gives env.layout tt
  marks_if (Some at) (state.At n) = gives env.layout tt
  marks_if (Some at) state.Bad = gives env.layout tt
  marks_if (Some at) state.Held = gives env.layout tt
  marks_if (Some at) state.Escaped = gives env.layout tt
  marks_if (Some at) state.Freed = gives env.layout tt
  marks_if (Some at) state.Null = gives env.layout tt
  marks_if (Some at) state.Same = gives env.layout tt

  sets_out : (n : ℕ) (o : Outed) → Marks (set_out_as (out_state n) o)
  sets_out zero o = chain env.layout (stores env.layout o.at (out_cell state.Null o.object)) (λ _ _. marks_if o.object state.Null)
  sets_out (suc zero) o = chain env.layout (stores env.layout o.at (out_cell state.Fresh o.object)) (λ _ _. marks_if o.object state.Fresh)
  sets_out (suc (suc zero)) o = chain env.layout (stores env.layout o.at (out_cell state.Other o.object)) (λ _ _. marks_if o.object state.Other)
  sets_out (suc (suc (suc n))) o = gives env.layout tt

  sets_outs : (os : List Outed) → Marks (set_outs env os)
  sets_outs [] = gives env.layout tt
  sets_outs (o ∷ os) = chain env.layout (sets_out (number_at env.choice o.bit 2) o) (λ _ _. sets_outs os)

  sets_written : (x : Written) → Marks (set_written env x)
  sets_written x = either env.layout _ (stores env.layout x.at (written_cell env x)) (gives env.layout tt)

  sets_writes : (xs : List Written) → Marks (set_writes env xs)
  sets_writes [] = gives env.layout tt
  sets_writes (x ∷ xs) = chain env.layout (sets_written x) (λ _ _. sets_writes xs)

  param_does : (n : ℕ) (c : Cell) → Marks (param_effect env (param_state n) c)
  param_does zero c = gives env.layout tt
  param_does (suc zero) c = escapes env c
  param_does (suc (suc zero)) c = frees env c
  param_does (suc (suc (suc n))) c = gives env.layout tt

  param_done : (vs : List Cell) (k : ℕ) (x : Item) → Marks (param_acts env vs k x)
  param_done vs k (item.Param n) = param_does (number_at env.choice (spot_at env.layout k).bit 2) (slice_index_or vs n null)
  param_done vs k item.Exit = gives env.layout tt
  param_done vs k (item.Lock x) = gives env.layout tt
  param_done vs k (item.Out n) = gives env.layout tt

  params_done : (vs : List Cell) (k : ℕ) (xs : List ItemRows) → Marks (params_act env vs k xs)
  params_done vs k [] = gives env.layout tt
  params_done vs k (x ∷ xs) = chain env.layout (param_done vs k x.item) (λ _ _. params_done vs (spot_behind (is_param x.item) k) xs)

  -- Rows.

  lock_row_asked : (n : ℕ) (g : Gives) (l : Locked) → Leads env.layout Whatever (lock_stands env n g l)
  lock_row_asked n g l =
      chain env.layout (state_asked env l.at)
      (λ k _. gives env.layout {a = from_state env n k g (state.At (state_after env l)) l.rows} tt)

  lock_rows_asked : (n : ℕ) (g : Gives) (ls : List Locked) → Leads env.layout Whatever (locks_stand env n g ls)
  lock_rows_asked n g [] = gives env.layout {a = true} tt
  lock_rows_asked n g (l ∷ ls) =
      chain env.layout (lock_row_asked n g l) (λ a _. chain env.layout (lock_rows_asked n g ls) (λ b _. gives env.layout {a = a && b} tt))

  rows_asked : (a : Acting) (g : Given) → Leads env.layout Whatever (rows_stand env a g)
  rows_asked a g =
      chain env.layout (lock_rows_asked a.given g.result a.locks)
      (λ b _. gives env.layout
      {a = stands (row a.given state.Nil g.result g.kind) (exit_rows a.summary.items)
      && (b && (params_stand env a.args a.given g.result (param_spot a) a.summary.items
      && list_all (out_stands env a.given g.result) a.outs))} tt)

  -- The call.

  takes_effect : (a : Acting) (g : Given) (ks : List ℕ) → Leads env.layout Whatever (effects env a g ks)
  takes_effect a g ks =
      chain env.layout (sets_states ks a.locks)
      (λ _ _. chain env.layout (sets_outs a.outs)
      (λ _ _. chain env.layout (sets_writes a.writes)
      (λ _ _. chain env.layout (params_done a.args (param_spot a) a.summary.items)
      (λ _ _. chain env.layout (marks_if g.object g.kind) (λ _ _. gives env.layout {a = g.value} tt)))))

  acts_given : (a : Acting) (g : Option Given) → Leads env.layout Whatever (acts_as env a g)
  acts_given a None = stops env.layout
  acts_given a (Some g) =
      chain env.layout (rows_asked a g)
      (λ b _. chain env.layout (requires env.layout b reason.NoRow) (λ _ _. takes_effect a g (map (state_after env) a.locks)))

  -- where a call may err at a location, it errs there alone
  module _ (f : Failing) (fails : (at : ℕ) → at < length env.layout.locations → Leads env.layout Whatever (f at)) where
    errs_there : (a : Acting) (l : Locked) → l.at < length env.layout.locations → Leads env.layout Whatever (errs env f a l)
    errs_there a l h =
        chain env.layout (state_asked env l.at)
        (λ k _. chain env.layout (requires env.layout (error_stands a.given k l) reason.NoRow)
        (λ _ _. chain env.layout (marks env.layout l.at flag.Touched) (λ _ _. fails l.at h)))

    abbrev IfLocked : Option Locked → Type 0
    IfLocked None = Unit {0}
    IfLocked (Some l) = l.at < length env.layout.locations

    if_locked : (b : Bool) (l : Locked) (o : Option Locked) → l.at < length env.layout.locations → IfLocked o → IfLocked (if b then Some l else o)
    if_locked true l o h i = h
    if_locked false l o h i = i

    first_there : (ls : List Locked) → AreThere ls → IfLocked (first_error env ls)
    first_there [] h = tt
    first_there (l ∷ ls) h = if_locked (bit_at env.choice l.bit) l (first_error env ls) h.0 (first_there ls h.1)

    acts_or_errs : (y : Ty) (a : Acting) (o : Option Locked) → IfLocked o → Leads env.layout Whatever (acts_unless env f y a o)
    acts_or_errs y a (Some l) h = errs_there a l h
    acts_or_errs y a None h = acts_given a (given_by env a.occurrence y)

    does_act : (y : Ty) (a : Acting) → AreThere a.locks → Leads env.layout Whatever (acts env f y a)
    does_act y a h =
        chain env.layout (requires env.layout (not (meet_twice (map (λ l. l.at) a.locks) || meet_twice (map (λ o. o.at) a.outs))) reason.Alias)
        (λ _ _. acts_or_errs y a (first_error env a.locks) (first_there a.locks h))

    pub knows : (o : Occurrence) (y : Ty) (sum : Summary) (vs : List Cell) → May env.layout (is_of_params (Some sum))
        → Leads env.layout Whatever (known env f o y sum vs)
    knows o y sum vs may =
        chain env.layout (finds_locks vs o.spot sum.items may)
        (λ ls hs. chain env.layout (finds_outs vs (o.spot + (count_items is_lock sum.items + count_items is_param sum.items)) sum.items)
        (λ os _. chain env.layout
        (finds_writes vs sum.items
        (o.spot + (count_items is_lock sum.items + (count_items is_param sum.items + count_items is_out_item sum.items))) sum.writes)
        (λ ws _. does_act y
        (record { summary = sum; occurrence = o; args = vs; given = given_number vs; locks = ls; outs = os; writes = ws }) hs)))
