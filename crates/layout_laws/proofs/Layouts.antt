-- The whole layout of a function.
use Rattle.std.proofs.Common.{inl, inr, ◌≡◌, ◌⊎◌, ℕ, zero, suc, ◌+◌, ◌-◌, ◌≤◌, ◌<◌, Bool, true, false, ◌&&◌, List, [], ◌∷◌, ◌++◌, length, refl, sym, ap, subst, ◌∙◌, arith}
use Rattle.std.specs.Prelude.{Option, Some, None, IfSome, Result, Ok, Err, nat_eq, slice_get, slice_set, if◌then◌else◌}
use Rattle.std.specs.List.{list_any}
use Rattle.sum_rows.specs.declared.row.Item.{Item}
use Rattle.sum_rows.specs.declared.row.Item.TheVariants as item
use Rattle.sum_rows.specs.declared.row.ItemRows.{ItemRows}
use Rattle.sum_rows.specs.declared.row.Summary.{Summary}
use Rattle.sum_rows.specs.declared.row.Write.{Write}
use Rattle.sc_world.specs.declared.run.Origin.{Origin}
use Rattle.sc_world.specs.declared.run.Origin.TheVariants as origin
use Rattle.sc_world.specs.Tree.{Ty, Void, Bool', Int, Ptr, Array, Struct, Union, Func, Opaque, is_pointer, target_or_void}
use Rattle.sc_world.specs.Build.{Built, goes_on, ◌>>=◌, done}
use Rattle.sc_world.specs.Source.{Source, Signature, Effect, Operation, Try, Allocate, Release, Ends, Expect, Known, Unknown, sum_at}
use Rattle.sc_world.specs.Gather.{Found, Site}
use Rattle.sc_world.specs.Layout.{Layout, Location, location, is_pointer_cell, is_pointer_type, no_layout}
use Rattle.sc_world.specs.Objects.{Ground, Laying, Chosen, CellsAndStates, whole, stub, Behind, Object, Stub, behind, type_or_void, set_target, follow_cell, follow_at, follow_all, follow_range, lay_params, lay_global, lay_globals, lay_locals, lay_literals, levels, count, location_now, put_at, take_bits, cell_bits, is_cell}
use Rattle.sc_world.specs.Objects as objects
use Rattle.sc_world.specs.Occurrences.{call_object, is_zeroed, stubs_behind, object_if, push_occurrence, occurrences_now, occur_once, occur, occur_all, cell_if, cells_from, object_cells, result_bits, push_spot, spots_now, spot_of, state_spot, state_spots, param_spot, param_spots, param_type, out_object, out_spot, out_spots, pointer_spot, write_spot, write_spots, known_spots, known_callee, effect_bits, occurrence_now, put_occurrence, number_site, number_turns, number_all, is_out_path}
use Rattle.sc_world.specs.Layout as layouts
use Rattle.sc_world.specs.Places.{lay_out}
use Rattle.layout_laws.specs.Origins.{IsAmong, at, Has, FitsOrigin, HasItsParts, IsRight, IsLaidFor, IsLiteral}
use Rattle.layout_laws.proofs.Lists.{length_set}
use Rattle.layout_laws.proofs.Steps.{Stays, stays_refl, has_stays, typed_there, Goes, goes_refl, goes_trans, After, chained, weaker, Pushed, stub_pushes, set_stays}
use Rattle.layout_laws.proofs.Objects.{Laid, laid_has, LaidAt, ground, lays_whole}

-- the type of a pointer cell
pointer_is : (y : Option Ty) → is_pointer_type y ≡ true → y ≡ Some (Ptr (target_or_void (type_or_void y)))
pointer_is None e = absurd (cc)
pointer_is (Some Void) e = absurd (cc)
pointer_is (Some Bool') e = absurd (cc)
pointer_is (Some (Int k)) e = absurd (cc)
pointer_is (Some (Ptr t)) e = refl
pointer_is (Some (Array t n)) e = absurd (cc)
pointer_is (Some (Struct n)) e = absurd (cc)
pointer_is (Some (Union n)) e = absurd (cc)
pointer_is (Some (Func t known ts variadic)) e = absurd (cc)
pointer_is (Some (Opaque k)) e = absurd (cc)

module _ (s : Source) (f : Found) where
  abbrev here : Ground
  here = ground s f

  abbrev From : {A : Type 0} → Layout → A → Layout → Type 0
  From p a q = Goes s f p.locations q.locations

  pub record Does {A : Type 0} (m : Laying A) : Type 0 where
    pub by : (p : Layout) → After (From p) (m p)

  chain : {A B : Type 0} {m : Laying A} {k : A → Laying B} → Does m → ((a : A) → Does (k a)) → Does (m >>= k)
  chain {m = m} {k = k} l h = record {
    by = λ p. chained (From p) (From p) (m p) k (l.by p)
        (λ a q g. weaker (From q) (From p) (k a q) (λ b r d. goes_trans s f p.locations q.locations r.locations g d) ((h a).by q));
  }

  gives : {A : Type 0} {a : A} → Does (done a)
  gives = record { by = λ p. goes_refl s f p.locations }

  either : {A : Type 0} {m n : Laying A} (c : Bool) → Does m → Does n → Does (if c then m else n)
  either true l h = l
  either false l h = h

  -- The single steps.

  takes : (n : ℕ) → Does (take_bits n)
  takes n = record { by = λ p. goes_refl s f p.locations }

  counts : Does count
  counts = record { by = λ p. goes_refl s f p.locations }

  pushes_occurrence : (o : layouts.Occurrence) → Does (push_occurrence o)
  pushes_occurrence o = record { by = λ p. goes_refl s f p.locations }

  counts_occurrences : Does occurrences_now
  counts_occurrences = record { by = λ p. goes_refl s f p.locations }

  pushes_spot : (bit : ℕ) (o : Option ℕ) → Does (push_spot bit o)
  pushes_spot bit o = record { by = λ p. goes_refl s f p.locations }

  counts_spots : Does spots_now
  counts_spots = record { by = λ p. goes_refl s f p.locations }

  looks_occurrence : (k : ℕ) → Does (occurrence_now k)
  looks_occurrence k = record { by = λ p. goes_refl s f p.locations }

  puts_occurrence : (k : ℕ) (o : layouts.Occurrence) → Does (put_occurrence k o)
  puts_occurrence k o = record { by = λ p. goes_refl s f p.locations }

  -- an entry that keeps its type and its origin
  set_goes : (ls : List Location) (k : ℕ) (l : Location) → l.type ≡ (at ls k).type → l.origin ≡ (at ls k).origin
      → Goes s f ls (slice_set ls k l)
  set_goes ls k l e d = record {
    stays = set_stays ls k l e d;
    right = λ i low high. absurd (omega (arith, low, high, length_set ls k l));
  }

  -- a stub
  pushed_goes : (ls ms : List Location) (o : Origin) → Pushed ls ms None o → FitsOrigin s f ms None o → Goes s f ls ms
  pushed_goes ls ms o h fits = record { stays = h.stays; right = λ i low high. stub_right i (omega (arith, low, high, h.one)) }
    where
      stub_right : (i : ℕ) → length ls ≡ i → IsRight s f ms i
      stub_right i e = subst (λ n. IsRight s f ms n) e (
        subst (λ y. FitsOrigin s f ms y (at ms (length ls)).origin) (sym h.type)
            (subst (λ z. FitsOrigin s f ms None z) (sym h.origin) fits),
        subst (λ y. HasItsParts s f ms (length ls) y) (sym h.type) tt,
      )

  call_stub : (k : ℕ) → Does (stub (origin.Call k))
  call_stub k = record {
    by = λ p.
        weaker (λ n q. (n ≡ length p.locations) × Pushed p.locations q.locations None (origin.Call k)) (From p)
        (stub (origin.Call k) p) (λ n q h. pushed_goes p.locations q.locations (origin.Call k) h.1 tt) (stub_pushes (origin.Call k) p);
  }

  call_whole : (c : Chosen) (t : Ty) (k : ℕ) → Does (whole here c t (origin.Call k))
  call_whole c t k = record {
    by = λ p.
        weaker (LaidAt s f p t (origin.Call k)) (From p) (whole here c t (origin.Call k) p) (λ n q h. h.1.goes)
        (lays_whole s f c t (origin.Call k) p tt);
  }

  -- What stands behind pointers.

  behinds : (b : Behind) (k : ℕ) (t : Ty) (p : Layout) → (at p.locations k).type ≡ Some (Ptr t) → After (From p) (behind here b k t p)
  behinds (Object c) k t p e =
      weaker (LaidAt s f p t (origin.Target k)) (From p) (whole here c t (origin.Target k) p) (λ n q h. h.1.goes)
      (lays_whole s f c t (origin.Target k) p (typed_there p.locations k (Ptr t) e, e))
  behinds Stub k t p e =
      weaker (λ n q. (n ≡ length p.locations) × Pushed p.locations q.locations None (origin.Target k)) (From p)
      (stub (origin.Target k) p)
      (λ n q h. pushed_goes p.locations q.locations (origin.Target k) h.1
      (omega (arith, typed_there p.locations k (Ptr t) e, h.1.one), tt))
      (stub_pushes (origin.Target k) p)

  sets_target : (k to : ℕ) → Does (set_target k to)
  sets_target k to = record {
    by = λ p. set_goes p.locations k (record (location p k) { target = Some to }) refl refl;
  }

  follow_by : (c : Bool) (b : Behind) (k : ℕ) (p : Layout) → is_pointer_cell (location p k) ≡ c
      → After (From p)
      ((if c then (behind here b k (target_or_void (type_or_void (location p k).type)) >>= λ to. set_target k to) else done tt) p)
  follow_by true b k p e =
      chained (From p) (From p) (behind here b k (target_or_void (type_or_void (location p k).type)) p) (λ to. set_target k to)
      (behinds b k (target_or_void (type_or_void (location p k).type)) p (pointer_is (location p k).type e))
      (λ to q g. weaker (From q) (From p) (set_target k to q) (λ u r d. goes_trans s f p.locations q.locations r.locations g d)
      ((sets_target k to).by q))
  follow_by false b k p e = goes_refl s f p.locations

  follows_at : (b : Behind) (k : ℕ) → Does (follow_at here b k)
  follows_at b k = record { by = λ p. follow_by (is_pointer_cell (location p k)) b k p refl }

  follows_all : (more k : ℕ) (b : Behind) → Does (follow_all more k here b)
  follows_all zero k b = gives
  follows_all (suc more) k b = chain (follows_at b k) (λ _. follows_all more (k + 1) b)

  follows_range : (from to : ℕ) (b : Behind) → Does (follow_range from to here b)
  follows_range from to b = follows_all (to - from) from b

  lays_levels : (reach from to : ℕ) → Does (levels reach from to here)
  lays_levels zero from to = follows_range from to Stub
  lays_levels (suc reach) from to =
      chain counts
      (λ start. chain (follows_range from to (Object CellsAndStates)) (λ _. chain counts (λ end. lays_levels reach start end)))

  -- Calls in their turns.

  lays_stubs : (c : Bool) (from to : ℕ) → Does (stubs_behind c from to here)
  lays_stubs true from to = gives
  lays_stubs false from to = follows_range from to Stub

  lays_object_if : (c : Bool) (n : ℕ) (x : Site) → Does (object_if c here n x)
  lays_object_if true n x =
      chain (call_whole objects.Nothing x.object n)
      (λ k. chain counts (λ end. chain (lays_stubs (is_zeroed x.effect) k end) (λ _. gives {a = Some k})))
  lays_object_if false n x = gives {a = None}

  occurs_once : (k : ℕ) (x : Site) → Does (occur_once here k x)
  occurs_once k x =
      chain counts_occurrences
      (λ n. chain (lays_object_if (is_pointer x.result) n x)
      (λ o. pushes_occurrence (record { site = k; object = o; bit = 0; spot = 0 })))

  occurs : (turns k : ℕ) (x : Site) → Does (occur turns here k x)
  occurs zero k x = gives
  occurs (suc more) k x = chain (occurs_once k x) (λ _. occurs more k x)

  occurs_all : (k : ℕ) (xs : List Site) → Does (occur_all k xs here)
  occurs_all k [] = gives
  occurs_all k (x ∷ xs) = chain (occurs x.turns k x) (λ _. occurs_all (k + 1) xs)

  -- Bits.

  cell_by : (a b : Bool) (n k : ℕ) (p : Layout)
      → After (From p)
      ((if a
      then (if b then (take_bits n >>= λ bit. put_at k (record (location p k) { bit = Some bit })) else done (tt {0}))
      else done (tt {0})) p)
  cell_by true true n k p = set_goes p.locations k (record (location p k) { bit = Some p.bits }) refl refl
  cell_by true false n k p = goes_refl s f p.locations
  cell_by false b n k p = goes_refl s f p.locations

  takes_cell : (k root : ℕ) → Does (location_now k >>= λ l. cell_if s root k l)
  takes_cell k root = record {
    by = λ p.
        cell_by (nat_eq (location p k).root root) (layouts.is_cell (location p k)) (cell_bits s (type_or_void (location p k).type)) k p;
  }

  takes_cells : (more k root : ℕ) → Does (cells_from more k root s)
  takes_cells zero k root = gives
  takes_cells (suc more) k root = chain (takes_cell k root) (λ _. takes_cells more (k + 1) root)

  takes_object : (o : Option ℕ) → Does (object_cells s o)
  takes_object None = gives
  takes_object (Some k) = chain counts (λ n. takes_cells (n - k) k k)

  takes_result : (x : Site) (k : ℕ) (o : Option ℕ) → Does (result_bits s x k o)
  takes_result x k o = either _ (chain (takes _) (λ _. gives)) (either _ (chain (takes k) (λ _. takes_object o)) gives)

  takes_spot : (k : ℕ) → Does (spot_of k)
  takes_spot k = chain (takes k) (λ bit. pushes_spot bit None)

  takes_state : (x : Item) → Does (state_spot s x)
  takes_state (item.Lock p) = takes_spot (1 + objects.state_bits s)
  takes_state item.Exit = gives
  takes_state (item.Param n) = gives
  takes_state (item.Out n) = gives

  takes_states : (xs : List ItemRows) → Does (state_spots s xs)
  takes_states [] = gives
  takes_states (x ∷ xs) = chain (takes_state x.item) (λ _. takes_states xs)

  takes_param : (x : Item) → Does (param_spot x)
  takes_param (item.Param n) = takes_spot 2
  takes_param item.Exit = gives
  takes_param (item.Lock p) = gives
  takes_param (item.Out n) = gives

  takes_params : (xs : List ItemRows) → Does (param_spots xs)
  takes_params [] = gives
  takes_params (x ∷ xs) = chain (takes_param x.item) (λ _. takes_params xs)

  lays_out_object : (g : Signature) (n k : ℕ) → Does (out_object here g n k)
  lays_out_object g n k =
      chain (call_whole objects.Cells (target_or_void (target_or_void (param_type g n))) k)
      (λ i. chain counts (λ end. chain (follows_range i end Stub) (λ _. gives {a = i})))

  takes_out : (g : Signature) (k : ℕ) (x : Item) → Does (out_spot here g k x)
  takes_out g k (item.Out n) = chain (takes 2) (λ bit. chain (lays_out_object g n k) (λ i. pushes_spot bit (Some i)))
  takes_out g k item.Exit = gives
  takes_out g k (item.Lock p) = gives
  takes_out g k (item.Param n) = gives

  takes_outs : (g : Signature) (k : ℕ) (xs : List ItemRows) → Does (out_spots here g k xs)
  takes_outs g k [] = gives
  takes_outs g k (x ∷ xs) = chain (takes_out g k x.item) (λ _. takes_outs g k xs)

  takes_pointer : (k : ℕ) → Does (pointer_spot k)
  takes_pointer k = chain (call_stub k) (λ i. chain (takes 1) (λ bit. pushes_spot bit (Some i)))

  takes_write : (items : List ItemRows) (k : ℕ) (x : Write) → Does (write_spot items k x)
  takes_write items k x = either (is_out_path items x.path) gives (either (nat_eq x.width 0) (takes_pointer k) (takes_spot x.width))

  takes_writes : (items : List ItemRows) (k : ℕ) (xs : List Write) → Does (write_spots items k xs)
  takes_writes items k [] = gives
  takes_writes items k (x ∷ xs) = chain (takes_write items k x) (λ _. takes_writes items k xs)

  takes_known : (k : ℕ) (g : Signature) (sum : Option Summary) → Does (known_spots here k g sum)
  takes_known k g None = gives
  takes_known k g (Some sum) =
      chain (takes_states sum.items)
      (λ _. chain (takes_params sum.items) (λ _. chain (takes_outs g k sum.items) (λ _. takes_writes sum.items k sum.writes)))

  takes_effect : (k : ℕ) (x : Site) (o : Option ℕ) (e : Effect) → Does (effect_bits here k x o e)
  takes_effect k x o (Try m n) = chain (takes 1) (λ _. gives)
  takes_effect k x o (Allocate true) = chain (takes 1) (λ _. gives)
  takes_effect k x o (Allocate false) = chain (takes 1) (λ _. takes_object o)
  takes_effect k x o Unknown = takes_result x 1 o
  takes_effect k x o (Known m) = chain (takes_result x 2 o) (λ _. takes_known k (known_callee s m) (sum_at s m))
  takes_effect k x o (Operation m) = gives
  takes_effect k x o Release = gives
  takes_effect k x o Ends = gives
  takes_effect k x o Expect = gives

  numbers_site : (k : ℕ) (x : Site) → Does (number_site here k x)
  numbers_site k x =
      chain (looks_occurrence k)
      (λ o. chain (takes 0)
      (λ bit. chain counts_spots
      (λ spot. chain (takes_effect k x o.object x.effect) (λ _. puts_occurrence k (record o { bit = bit; spot = spot })))))

  numbers_turns : (turns k : ℕ) (x : Site) → Does (number_turns turns here k x)
  numbers_turns zero k x = gives
  numbers_turns (suc more) k x = chain (numbers_site k x) (λ _. numbers_turns more (k + 1) x)

  numbers_all : (k : ℕ) (xs : List Site) → Does (number_all k xs here)
  numbers_all k [] = gives
  numbers_all k (x ∷ xs) = chain (numbers_turns x.turns k x) (λ _. numbers_all (k + x.turns) xs)

  -- Parameters, globals, locals, strings and functions.

  some_same : (t u : Ty) → Some t ≡ Some u → t ≡ u
  some_same t u h = ap (type_or t) h
    where
      type_or : Ty → Option Ty → Ty
      type_or d None = d
      type_or d (Some z) = z

  none_is : (t : Ty) → None ≡ Some t → ⊥
  none_is t h = absurd (cc)

  -- what a list declares, from number k on, is there
  abbrev HasAll : (ℕ → Origin) → ℕ → List Ty → List Location → Type 0
  HasAll to k ts ls = (n : ℕ) (t : Ty) → slice_get ts n ≡ Some t → Has ls (to (k + n))

  abbrev Declares : List Ty → ℕ → List Ty → Type 0
  Declares all k ts = (n : ℕ) (t : Ty) → slice_get ts n ≡ Some t → slice_get all (k + n) ≡ Some t

  declares_rest : (all : List Ty) (k : ℕ) (t : Ty) (ts : List Ty) → Declares all k (t ∷ ts) → Declares all (k + 1) ts
  declares_rest all k t ts h n u e = subst (λ m. slice_get all m ≡ Some u) (omega arith) (h (suc n) u e)

  declares_first : (all : List Ty) (k : ℕ) (t : Ty) (ts : List Ty) → Declares all k (t ∷ ts) → slice_get all k ≡ Some t
  declares_first all k t ts h = subst (λ m. slice_get all m ≡ Some t) (omega arith) (h 0 t refl)

  has_more : (to : ℕ → Origin) (k : ℕ) (t : Ty) (ts : List Ty) (ls : List Location) → Has ls (to k) → HasAll to (k + 1) ts ls
      → HasAll to k (t ∷ ts) ls
  has_more to k t ts ls first rest zero u e = subst (λ m. Has ls (to m)) (omega arith) first
  has_more to k t ts ls first rest (suc n) u e = subst (λ m. Has ls (to m)) (omega arith) (rest n u e)

  abbrev Declared : (ℕ → Origin) → ℕ → List Ty → Layout → Unit {0} → Layout → Type 0
  Declared to k ts p u q = Goes s f p.locations q.locations × HasAll to k ts q.locations

  lays_params : (k : ℕ) (ts : List Ty) (p : Layout) → Declares s.params k ts
      → After (Declared (λ n. origin.Param n) k ts p) (lay_params k ts here p)
  lays_params k [] p h = (goes_refl s f p.locations, λ n t e. absurd (none_is t e))
  lays_params k (t ∷ ts) p h =
      chained (LaidAt s f p t (origin.Param k)) (Declared (λ n. origin.Param n) k (t ∷ ts) p)
      (whole here objects.Cells t (origin.Param k) p) (λ _. lay_params (k + 1) ts here)
      (lays_whole s f objects.Cells t (origin.Param k) p (t, refl, declares_first s.params k t ts h))
      (λ a q laid.
      weaker (Declared (λ n. origin.Param n) (k + 1) ts q) (Declared (λ n. origin.Param n) k (t ∷ ts) p) (lay_params (k + 1) ts here q)
      (λ u r g. (
        goes_trans s f p.locations q.locations r.locations laid.1.goes g.0,
        has_more (λ n. origin.Param n) k t ts r.locations
            (has_stays q.locations r.locations (origin.Param k) g.0.stays (laid_has s f p.locations q.locations t (origin.Param k) laid.1)) g.1,
      ))
      (lays_params (k + 1) ts q (declares_rest s.params k t ts h)))

  lays_locals : (k : ℕ) (ts : List Ty) (p : Layout) → Declares s.locals k ts
      → After (Declared (λ n. origin.Local n) k ts p) (lay_locals k ts here p)
  lays_locals k [] p h = (goes_refl s f p.locations, λ n t e. absurd (none_is t e))
  lays_locals k (t ∷ ts) p h =
      chained (LaidAt s f p t (origin.Local k)) (Declared (λ n. origin.Local n) k (t ∷ ts) p)
      (whole here objects.Nothing t (origin.Local k) p) (λ _. lay_locals (k + 1) ts here)
      (lays_whole s f objects.Nothing t (origin.Local k) p (t, refl, declares_first s.locals k t ts h))
      (λ a q laid.
      weaker (Declared (λ n. origin.Local n) (k + 1) ts q) (Declared (λ n. origin.Local n) k (t ∷ ts) p) (lay_locals (k + 1) ts here q)
      (λ u r g. (
        goes_trans s f p.locations q.locations r.locations laid.1.goes g.0,
        has_more (λ n. origin.Local n) k t ts r.locations
            (has_stays q.locations r.locations (origin.Local k) g.0.stays (laid_has s f p.locations q.locations t (origin.Local k) laid.1)) g.1,
      ))
      (lays_locals (k + 1) ts q (declares_rest s.locals k t ts h)))

  -- of the globals those that the text names

  abbrev is_global : ℕ → Bool
  is_global n = list_any (nat_eq n) f.globals

  abbrev HasGlobals : ℕ → List Ty → List Location → Type 0
  HasGlobals k ts ls = (n : ℕ) (t : Ty) → slice_get ts n ≡ Some t → is_global (k + n) ≡ true → Has ls (origin.Global (k + n))

  globals_more : (k : ℕ) (t : Ty) (ts : List Ty) (ls : List Location) → (is_global k ≡ true → Has ls (origin.Global k))
      → HasGlobals (k + 1) ts ls → HasGlobals k (t ∷ ts) ls
  globals_more k t ts ls first rest zero u e named =
      subst (λ m. Has ls (origin.Global m)) (omega arith)
      (first (subst (λ m. is_global m ≡ true) (let back : k + 0 ≡ k = omega arith in back) named))
  globals_more k t ts ls first rest (suc n) u e named =
      subst (λ m. Has ls (origin.Global m)) (omega arith)
      (rest n u e (subst (λ m. is_global m ≡ true) (let over : k + suc n ≡ k + 1 + n = omega arith in over) named))

  abbrev GlobalLaid : ℕ → Layout → Unit {0} → Layout → Type 0
  GlobalLaid k p u q = Goes s f p.locations q.locations × (is_global k ≡ true → Has q.locations (origin.Global k))

  global_by : (b : Bool) (k : ℕ) (t : Ty) (p : Layout) → is_global k ≡ b → slice_get s.globals k ≡ Some t
      → After (GlobalLaid k p)
      ((if b then (whole here CellsAndStates t (origin.Global k) >>= λ _. done (tt {0})) else done (tt {0})) p)
  global_by true k t p e h =
      chained (LaidAt s f p t (origin.Global k)) (GlobalLaid k p) (whole here CellsAndStates t (origin.Global k) p) (λ _. done tt)
      (lays_whole s f CellsAndStates t (origin.Global k) p (t, refl, h))
      (λ a q laid. (laid.1.goes, λ _. laid_has s f p.locations q.locations t (origin.Global k) laid.1))
  global_by false k t p e h = (goes_refl s f p.locations, λ named. absurd (clash (is_global k) named e))
    where
      clash : (b : Bool) → b ≡ true → b ≡ false → ⊥
      clash b d g = absurd (cc)

  abbrev GlobalsLaid : ℕ → List Ty → Layout → Unit {0} → Layout → Type 0
  GlobalsLaid k ts p u q = Goes s f p.locations q.locations × HasGlobals k ts q.locations

  lays_globals : (k : ℕ) (ts : List Ty) (p : Layout) → Declares s.globals k ts → After (GlobalsLaid k ts p) (lay_globals k ts here p)
  lays_globals k [] p h = (goes_refl s f p.locations, λ n t e named. absurd (none_is t e))
  lays_globals k (t ∷ ts) p h =
      chained (GlobalLaid k p) (GlobalsLaid k (t ∷ ts) p) (lay_global here k t p) (λ _. lay_globals (k + 1) ts here)
      (global_by (is_global k) k t p refl (declares_first s.globals k t ts h))
      (λ a q d.
      weaker (GlobalsLaid (k + 1) ts q) (GlobalsLaid k (t ∷ ts) p) (lay_globals (k + 1) ts here q)
      (λ u r g. (
        goes_trans s f p.locations q.locations r.locations d.0 g.0,
        globals_more k t ts r.locations (λ named. has_stays q.locations r.locations (origin.Global k) g.0.stays (d.1 named)) g.1,
      ))
      (lays_globals (k + 1) ts q (declares_rest s.globals k t ts h)))

  -- strings and functions

  literal_fits : (ls : List Location) (o : Origin) → IsLiteral o → FitsOrigin s f ls None o
  literal_fits ls (origin.Literal p) h = refl
  literal_fits ls (origin.Function n) h = refl
  literal_fits ls (origin.Param n) h = absurd h
  literal_fits ls (origin.Global n) h = absurd h
  literal_fits ls (origin.Local n) h = absurd h
  literal_fits ls (origin.Target n) h = absurd h
  literal_fits ls (origin.Call n) h = absurd h
  literal_fits ls (origin.Part n x) h = absurd h

  abbrev LiteralsLaid : List Origin → Layout → Unit {0} → Layout → Type 0
  LiteralsLaid os p u q = Goes s f p.locations q.locations × ((o : Origin) → IsAmong o os → Has q.locations o)

  lays_literals : (os : List Origin) (p : Layout) → ((o : Origin) → IsAmong o os → IsLiteral o)
      → After (LiteralsLaid os p) (lay_literals os p)
  lays_literals [] p h = (goes_refl s f p.locations, λ o among. absurd among)
  lays_literals (x ∷ xs) p h =
      chained (λ k q. (k ≡ length p.locations) × Pushed p.locations q.locations None x) (LiteralsLaid (x ∷ xs) p) (stub x p)
      (λ _. lay_literals xs) (stub_pushes x p)
      (λ k q d.
      weaker (LiteralsLaid xs q) (LiteralsLaid (x ∷ xs) p) (lay_literals xs q)
      (λ u r g. (
        goes_trans s f p.locations q.locations r.locations
            (pushed_goes p.locations q.locations x d.1 (literal_fits q.locations x (h x (inl refl)))) g.0,
        each q r d.1 g.0 g.1,
      ))
      (lays_literals xs q (λ o among. h o (inr among))))
    where
      each : (q r : Layout) → Pushed p.locations q.locations None x → Goes s f q.locations r.locations
          → ((o : Origin) → IsAmong o xs → Has r.locations o) → (o : Origin) → IsAmong o (x ∷ xs) → Has r.locations o
      each q r d g rest o (inl same) =
          has_stays q.locations r.locations o g.stays (length p.locations, omega (arith, d.one), d.origin ∙ same)
      each q r d g rest o (inr among) = rest o among

  -- The whole.

  abbrev Whole : Layout → Unit {0} → Layout → Type 0
  Whole p u q =
      Goes s f p.locations q.locations × HasAll (λ n. origin.Param n) 0 s.params q.locations × HasGlobals 0 s.globals q.locations
      × HasAll (λ n. origin.Local n) 0 s.locals q.locations × ((o : Origin) → IsAmong o f.literals → Has q.locations o)

  abbrev rest : ℕ → Laying (Unit {0})
  rest entered = do
    _ ← levels s.reach 0 entered here
    _ ← occur_all 0 f.sites here
    number_all 0 f.sites here

  lays_rest : (entered : ℕ) → Does (rest entered)
  lays_rest entered = chain (lays_levels s.reach 0 entered) (λ _. chain (occurs_all 0 f.sites) (λ _. numbers_all 0 f.sites))

  declares_all : (ts : List Ty) → Declares ts 0 ts
  declares_all ts n t e = subst (λ m. slice_get ts m ≡ Some t) (omega arith) e

  lays : (p : Layout) → ((o : Origin) → IsAmong o f.literals → IsLiteral o) → After (Whole p) (lay_out here p)
  lays p literals =
      chained (Declared (λ n. origin.Param n) 0 s.params p) (Whole p) (lay_params 0 s.params here p)
      (λ _. lay_globals 0 s.globals here >>= λ _. count >>= λ entered. lay_locals 0 s.locals here >>= λ _. lay_literals f.literals >>= λ _.
      rest entered)
      (lays_params 0 s.params p (declares_all s.params))
      (λ _ q1 h1.
      chained (GlobalsLaid 0 s.globals q1) (Whole p) (lay_globals 0 s.globals here q1)
      (λ _. count >>= λ entered. lay_locals 0 s.locals here >>= λ _. lay_literals f.literals >>= λ _. rest entered)
      (lays_globals 0 s.globals q1 (declares_all s.globals))
      (λ _ q2 h2.
      chained (Declared (λ n. origin.Local n) 0 s.locals q2) (Whole p) (lay_locals 0 s.locals here q2)
      (λ _. lay_literals f.literals >>= λ _. rest (length q2.locations))
      (lays_locals 0 s.locals q2 (declares_all s.locals))
      (λ _ q3 h3.
      chained (LiteralsLaid f.literals q3) (Whole p) (lay_literals f.literals q3) (λ _. rest (length q2.locations))
      (lays_literals f.literals q3 literals)
      (λ _ q4 h4.
      weaker (From q4) (Whole p) (rest (length q2.locations) q4)
      (λ _ q5 h5.
      let end3 = goes_trans s f q3.locations q4.locations q5.locations h4.0 h5 in
      let end2 = goes_trans s f q2.locations q3.locations q5.locations h3.0 end3 in
      let end1 = goes_trans s f q1.locations q2.locations q5.locations h2.0 end2 in (
        goes_trans s f p.locations q1.locations q5.locations h1.0 end1,
        λ n t e. has_stays q1.locations q5.locations (origin.Param (0 + n)) end1.stays (h1.1 n t e),
        λ n t e named. has_stays q2.locations q5.locations (origin.Global (0 + n)) end2.stays (h2.1 n t e named),
        λ n t e. has_stays q3.locations q5.locations (origin.Local (0 + n)) end3.stays (h3.1 n t e),
        λ o among. has_stays q4.locations q5.locations o h5.stays (h4.1 o among),
      ))
      ((lays_rest (length q2.locations)).by q4)))))

  none_before : (p : Layout) → p.locations ≡ [] → (q : Layout) → Whole p tt q → IsLaidFor s f q.locations
  none_before p e q h = record {
    right = λ i less. h.0.right i (subst (λ (ls : List Location). length ls ≤ i) (sym e) (omega arith)) less;
    params = λ n t is. subst (λ m. Has q.locations (origin.Param m)) (omega arith) (h.1 n t is);
    globals = λ n t is named. subst (λ m. Has q.locations (origin.Global m)) (omega arith)
        (h.2 n t is (subst (λ m. is_global m ≡ true) (let same : n ≡ 0 + n = omega arith in same) named));
    locals = λ n t is. subst (λ m. Has q.locations (origin.Local m)) (omega arith) (h.3 n t is);
    literals = h.4;
  }

  pub laid_for : (p : Layout) → p.locations ≡ [] → ((o : Origin) → IsAmong o f.literals → IsLiteral o)
      → After (λ u q. IsLaidFor s f q.locations) (lay_out here p)
  laid_for p e literals = weaker (Whole p) (λ u q. IsLaidFor s f q.locations) (lay_out here p) (λ u q h. none_before p e q h) (lays p literals)
