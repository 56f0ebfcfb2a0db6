-- A whole layout: no more locations than may be, and each of them has no state, or callers know it.
use Rattle.std.proofs.Common.{◌≡◌, ℕ, zero, suc, ◌+◌, ◌-◌, ◌<◌, ◌≤◌, Bool, true, false, List, [], ◌∷◌, ◌++◌, length, refl, sym, ap, subst, ◌∙◌, ⊎_elim, arith}
use Rattle.std.proofs.lemmas.Bool.{cases_eq, true≢false}
use Rattle.std.proofs.lemmas.List.{get_or-set_same, get_or-set_other, length-set}
use Rattle.std.specs.Prelude.{Option, Some, None, Result, Ok, Err, nat_eq, ◌||◌, slice_index_or, slice_set, if◌then◌else◌}
use Rattle.std.specs.List.{AllByRecursion}
use Rattle.sc_base.specs.declared.skip.LimitKind.{LimitKind}
use Rattle.sum_rows.specs.declared.row.Item.{Item}
use Rattle.sum_rows.specs.declared.row.Item.TheVariants as item
use Rattle.sum_rows.specs.declared.row.ItemRows.{ItemRows}
use Rattle.sum_rows.specs.declared.row.Summary.{Summary}
use Rattle.sum_rows.specs.declared.row.Write.{Write}
use Rattle.sc_world.specs.declared.run.Origin.{Origin}
use Rattle.sc_world.specs.declared.run.Origin.TheVariants as origin
use Rattle.sc_world.specs.Tree.{Ty, Void, Bool', Int, Ptr, Array, Struct, Union, Func, Opaque, is_integer, is_pointer, int_bits, target_or_void}
use Rattle.sc_world.specs.Build.{Built, Build, goes_on, done}
use Rattle.sc_world.specs.Source.{Source, Signature, Effect, Operation, Try, Allocate, Release, Ends, Expect, Known, Unknown, sum_at}
use Rattle.sc_world.specs.Gather.{Found, Site, nothing_found, gather_function}
use Rattle.sc_world.specs.Layout.{Layout, Location, Occurrence, location, nowhere, no_layout, no_occurrence, is_cell}
use Rattle.sc_world.specs.Objects.{Ground, Chosen, Nothing, Cells, Stub, NoParts, gives_states, parts_of, add, stub, whole, follow_range, cell_bits, type_or_void, lay_params, lay_globals, lay_locals, lay_literals, levels}
use Rattle.sc_world.specs.Occurrences.{stubs_behind, is_zeroed, object_if, occur_once, occur, occur_all, cell_at, cell_if, cells_from, object_cells, result_bits, state_spot, state_spots, param_spot, param_spots, param_type, out_object, out_spot, out_spots, is_out_path, pointer_spot, write_spot, write_spots, known_spots, known_callee, effect_bits, call_bits, number_site, number_turns, number_all}
use Rattle.sc_world.specs.Places.{lay_out, places, places_of, laid}
use Rattle.verdict_laws.proofs.Steps.{Post, chained, weaker}
use Rattle.verdict_laws.proofs.Laying.{len, pushed_len, IsAdded, add_lays, stub_at, IsStubbed, stub_lays}
use Rattle.verdict_laws.proofs.Objects.{Keeps, Lays, Stubs, whole_lays, stub_range, stub_one}
use Rattle.verdict_laws.proofs.Entry.{Settled, Entry, entry_stays, Settles, settles_refl, behind_it, stubs_settle, lays_settle, Enters, entered, locals_settle, literals_settle, levels_settle}

-- the limit of locations
pub Few : Layout → Type 0
Few p = len p ≤ 256

few_kept : (s : Source) → Keeps s Few
unfolding Few
few_kept s = record {
  added = λ c root t o p.
      weaker (IsAdded c root t o p) (λ at q. Few p → Few q) (add s c root t o p) (add_lays s c root t o p)
      (λ at q is few. omega (arith, pushed_len p q is.l is.is, is.is.room));
  stubbed = λ o p.
      weaker (IsStubbed o p) (λ at q. Few p → Few q) (stub o p) (stub_lays o p)
      (λ at q is few. omega (arith, pushed_len p q (stub_at (len p) o) is.is, is.is.room));
  pointed = λ at to p few. omega (arith, few, length-set p.locations at (record (location p at) { target = Some to }));
}

module _ (params globals : ℕ) where
  abbrev To : Layout → Layout → Type 0
  To p q = Settles params globals Few p q

  same_locations : (p q : Layout) → q.locations ≡ p.locations → To p q
  unfolding Few
  same_locations p q e = record {
    stays = record {
      longer = omega (arith, ap length e);
      origins = λ i less. ap (λ ls. (slice_index_or ls i nowhere).origin) e;
      states = λ i less. ap (λ ls. (slice_index_or ls i nowhere).state) e;
    };
    settled = λ i low high. absurd (omega (arith, low, high, ap length e));
    keeps = λ few. omega (arith, few, ap length e);
  }

  put_stays : {A : Type 0} (f : Location → A) (ls : List Location) (at : ℕ) (l : Location) → f l ≡ f (slice_index_or ls at nowhere)
      → (i : ℕ) → i < length ls → f (slice_index_or (slice_set ls at l) i nowhere) ≡ f (slice_index_or ls i nowhere)
  put_stays f ls at l e i less =
      ⊎_elim
      (λ (here : i ≡ at).
      subst (λ n. f (slice_index_or (slice_set ls at l) n nowhere) ≡ f (slice_index_or ls n nowhere)) (sym here)
      (ap f (get_or-set_same ls at l nowhere (subst (λ n. n < length ls) here less)) ∙ e))
      (λ (other : i ≡ at → ⊥). ap f (get_or-set_other ls at i l nowhere other))
      (cases_eq i at)

  bit_put : (p : Layout) (at b n : ℕ)
      → To p (record p { locations = slice_set p.locations at (record (location p at) { bit = Some b }); bits = p.bits + n })
  unfolding Few
  bit_put p at b n =
      let l : Location = record (location p at) { bit = Some b } in
      let e : length (slice_set p.locations at l) ≡ length p.locations = length-set p.locations at l in
      record {
        stays = record {
          longer = omega (arith, e);
          origins = λ i less. put_stays (λ (l : Location). l.origin) p.locations at l refl i less;
          states = λ i less. put_stays (λ (l : Location). l.state) p.locations at l refl i less;
        };
        settled = λ i low high. absurd (omega (arith, low, high, e));
        keeps = λ few. omega (arith, few, e);
      }

  nothing : (p : Layout) → To p p
  nothing p = settles_refl params globals Few p

  and_then : {A : Type 0} (p q : Layout) (m : Built Layout A) → To p q → Post (λ u z. To q z) m → Post (λ u z. To p z) m
  and_then p q m a h = behind_it params globals Few p q m a h

  -- a step, and another one behind it
  goes : {A B : Type 0} (p : Layout) (m : Built Layout A) (f : A → Build Layout B) → Post (λ a q. To p q) m
      → ((a : A) (q : Layout) → Post (λ b z. To q z) (f a q)) → Post (λ b z. To p z) (goes_on m f)
  goes p m f h k = chained (λ a q. To p q) (λ b z. To p z) m f h (λ a q is. and_then p q (f a q) is (k a q))

  cell_at_settles : (s : Source) (at : ℕ) (p : Layout) → Post (λ u q. To p q) (cell_at s at (location p at) p)
  cell_at_settles s at p = cell_by (is_cell (location p at))
    where
      cell_by : (b : Bool) → Post (λ u q. To p q)
          ((if b then (λ (p' : Layout). Ok (tt {0}, record p' { locations = slice_set p'.locations at (record (location p at) { bit = Some p'.bits }); bits = p'.bits + cell_bits s (type_or_void (location p at).type) })) else done (tt {0})) p)
      cell_by true = bit_put p at p.bits (cell_bits s (type_or_void (location p at).type))
      cell_by false = nothing p

  cell_if_settles : (b : Bool) (s : Source) (at : ℕ) (p : Layout)
      → Post (λ u q. To p q) ((if b then cell_at s at (location p at) else done (tt {0})) p)
  cell_if_settles true s at p = cell_at_settles s at p
  cell_if_settles false s at p = nothing p

  cells_settle : (more at root : ℕ) (s : Source) (p : Layout) → Post (λ u q. To p q) (cells_from more at root s p)
  cells_settle zero at root s p = nothing p
  cells_settle (suc more) at root s p =
      goes p (cell_if s root at (location p at) p) (λ u. cells_from more (at + 1) root s)
      (cell_if_settles (nat_eq (location p at).root root) s at p)
      (λ u q. cells_settle more (at + 1) root s q)

  object_cells_settle : (s : Source) (o : Option ℕ) (p : Layout) → Post (λ u q. To p q) (object_cells s o p)
  object_cells_settle s None p = nothing p
  object_cells_settle s (Some at) p = cells_settle (len p - at) at at s p

  result_by : (integer pointer : Bool) (n pointer_bits : ℕ) (s : Source) (o : Option ℕ) (p : Layout)
      → Post (λ u q. To p q)
      ((if integer
      then (λ (p' : Layout). Ok (tt {0}, record p' { bits = p'.bits + n }))
      else (if pointer then (λ (p' : Layout). object_cells s o (record p' { bits = p'.bits + pointer_bits })) else done (tt {0}))) p)
  result_by true pointer n pointer_bits s o p = same_locations p (record p { bits = p.bits + n }) refl
  result_by false true n pointer_bits s o p =
      and_then p (record p { bits = p.bits + pointer_bits }) (object_cells s o (record p { bits = p.bits + pointer_bits }))
      (same_locations p (record p { bits = p.bits + pointer_bits }) refl)
      (object_cells_settle s o (record p { bits = p.bits + pointer_bits }))
  result_by false false n pointer_bits s o p = nothing p

  result_settles : (s : Source) (x : Site) (pointer_bits : ℕ) (o : Option ℕ) (p : Layout)
      → Post (λ u q. To p q) (result_bits s x pointer_bits o p)
  result_settles s x pointer_bits o p =
      result_by (is_integer x.result) (is_pointer x.result) (int_bits s.widths x.result) pointer_bits s o p

  -- objects of calls

  stubs_if : (b : Bool) (from to : ℕ) (g : Ground) (p : Layout) → Post (λ u q. To p q) (stubs_behind b from to g p)
  stubs_if true from to g p = nothing p
  stubs_if false from to g p =
      weaker (λ u q. Stubs Few p q) (λ u q. To p q) (follow_range from to g Stub p) (stub_range Few g (few_kept g.source) from to p)
      (λ u q a. stubs_settle params globals Few p q a)

  whole_settles : (c : Chosen) (g : Ground) (t : Ty) (o : Origin) (p : Layout) → gives_states c ≡ false
      → Post (λ at q. To p q) (whole g c t o p)
  whole_settles c g t o p e =
      weaker (Lays Few c (len p) t o (parts_of g.source t) p) (λ at q. To p q) (whole g c t o p) (whole_lays Few g (few_kept g.source) c t o p)
      (λ at q a. lays_settle params globals Few c (len p) t o g p at q e a)

  object_by : (b : Bool) (g : Ground) (n : ℕ) (s : Site) (p : Layout) → Post (λ o q. To p q) (object_if b g n s p)
  object_by false g n s p = nothing p
  object_by true g n s p =
      goes p (whole g Nothing s.object (origin.Call n) p)
      (λ at. λ q. goes_on (stubs_behind (is_zeroed s.effect) at (len q) g q) (λ u. done (Some at)))
      (whole_settles Nothing g s.object (origin.Call n) p refl)
      (λ at q.
      goes q (stubs_behind (is_zeroed s.effect) at (len q) g q) (λ u. done (Some at)) (stubs_if (is_zeroed s.effect) at (len q) g q)
      (λ u z. nothing z))

  once_settles : (g : Ground) (k : ℕ) (s : Site) (p : Layout) → Post (λ u q. To p q) (occur_once g k s p)
  once_settles g k s p =
      goes p (object_if (is_pointer s.result) g (length p.occurrences) s p)
      (λ o q. Ok (tt {0}, record q { occurrences = q.occurrences ++ record { site = k; object = o; bit = 0; spot = 0 } ∷ [] }))
      (object_by (is_pointer s.result) g (length p.occurrences) s p)
      (λ o q. same_locations q (record q { occurrences = q.occurrences ++ record { site = k; object = o; bit = 0; spot = 0 } ∷ [] }) refl)

  turns_settle : (turns : ℕ) (g : Ground) (k : ℕ) (s : Site) (p : Layout) → Post (λ u q. To p q) (occur turns g k s p)
  turns_settle zero g k s p = nothing p
  turns_settle (suc more) g k s p =
      goes p (occur_once g k s p) (λ u. occur more g k s) (once_settles g k s p) (λ u q. turns_settle more g k s q)

  calls_settle : (k : ℕ) (ss : List Site) (g : Ground) (p : Layout) → Post (λ u q. To p q) (occur_all k ss g p)
  calls_settle k [] g p = nothing p
  calls_settle k (s ∷ ss) g p =
      goes p (occur s.turns g k s p) (λ u. occur_all (k + 1) ss g) (turns_settle s.turns g k s p) (λ u q. calls_settle (k + 1) ss g q)

  -- what the choice says of calls

  state_settles : (s : Source) (x : Item) (p : Layout) → Post (λ u q. To p q) (state_spot s x p)
  state_settles s item.Exit p = nothing p
  state_settles s (item.Lock x) p = same_locations p _ refl
  state_settles s (item.Param n) p = nothing p
  state_settles s (item.Out n) p = nothing p

  states_settle : (s : Source) (xs : List ItemRows) (p : Layout) → Post (λ u q. To p q) (state_spots s xs p)
  states_settle s [] p = nothing p
  states_settle s (x ∷ xs) p =
      goes p (state_spot s x.item p) (λ u. state_spots s xs) (state_settles s x.item p) (λ u q. states_settle s xs q)

  param_settles : (x : Item) (p : Layout) → Post (λ u q. To p q) (param_spot x p)
  param_settles item.Exit p = nothing p
  param_settles (item.Lock x) p = nothing p
  param_settles (item.Param n) p = same_locations p _ refl
  param_settles (item.Out n) p = nothing p

  params_settle : (xs : List ItemRows) (p : Layout) → Post (λ u q. To p q) (param_spots xs p)
  params_settle [] p = nothing p
  params_settle (x ∷ xs) p = goes p (param_spot x.item p) (λ u. param_spots xs) (param_settles x.item p) (λ u q. params_settle xs q)

  out_object_settles : (g : Ground) (f : Signature) (n k : ℕ) (p : Layout) → Post (λ at q. To p q) (out_object g f n k p)
  out_object_settles g f n k p =
      goes p (whole g Cells (target_or_void (target_or_void (param_type f n))) (origin.Call k) p)
      (λ at. λ q. goes_on (follow_range at (len q) g Stub q) (λ u. done at))
      (whole_settles Cells g (target_or_void (target_or_void (param_type f n))) (origin.Call k) p refl)
      (λ at q. goes q (follow_range at (len q) g Stub q) (λ u. done at) (stubs_if false at (len q) g q) (λ u z. nothing z))

  out_settles : (g : Ground) (f : Signature) (k : ℕ) (x : Item) (p : Layout) → Post (λ u q. To p q) (out_spot g f k x p)
  out_settles g f k item.Exit p = nothing p
  out_settles g f k (item.Lock x) p = nothing p
  out_settles g f k (item.Param n) p = nothing p
  out_settles g f k (item.Out n) p =
      and_then p (record p { bits = p.bits + 2 }) (goes_on (out_object g f n k (record p { bits = p.bits + 2 }))
      (λ at q. Ok (tt {0}, record q { spots = q.spots ++ record { bit = p.bits; object = Some at } ∷ [] })))
      (same_locations p (record p { bits = p.bits + 2 }) refl)
      (goes (record p { bits = p.bits + 2 }) (out_object g f n k (record p { bits = p.bits + 2 }))
      (λ at q. Ok (tt {0}, record q { spots = q.spots ++ record { bit = p.bits; object = Some at } ∷ [] }))
      (out_object_settles g f n k (record p { bits = p.bits + 2 }))
      (λ at q. same_locations q (record q { spots = q.spots ++ record { bit = p.bits; object = Some at } ∷ [] }) refl))

  outs_settle : (g : Ground) (f : Signature) (k : ℕ) (xs : List ItemRows) (p : Layout) → Post (λ u q. To p q) (out_spots g f k xs p)
  outs_settle g f k [] p = nothing p
  outs_settle g f k (x ∷ xs) p =
      goes p (out_spot g f k x.item p) (λ u. out_spots g f k xs) (out_settles g f k x.item p) (λ u q. outs_settle g f k xs q)

  pointer_settles : (g : Ground) (k : ℕ) (p : Layout) → Post (λ u q. To p q) (pointer_spot k p)
  pointer_settles g k p =
      goes p (stub (origin.Call k) p)
      (λ at q. Ok (tt {0}, record q { bits = q.bits + 1; spots = q.spots ++ record { bit = q.bits; object = Some at } ∷ [] }))
      (weaker (λ at q. Stubs Few p q) (λ at q. To p q) (stub (origin.Call k) p) (stub_one Few g (few_kept g.source) (origin.Call k) p)
      (λ at q a. stubs_settle params globals Few p q a))
      (λ at q. same_locations q (record q { bits = q.bits + 1; spots = q.spots ++ record { bit = q.bits; object = Some at } ∷ [] }) refl)

  write_by : (g : Ground) (b c : Bool) (k n : ℕ) (p : Layout)
      → Post (λ u q. To p q)
      ((if b then done (tt {0}) else (if c then pointer_spot k else
      (λ (p' : Layout). Ok (tt {0}, record p' { bits = p'.bits + n; spots = p'.spots ++ record { bit = p'.bits; object = None } ∷ [] })))) p)
  write_by g true c k n p = nothing p
  write_by g false true k n p = pointer_settles g k p
  write_by g false false k n p = same_locations p _ refl

  writes_settle : (g : Ground) (items : List ItemRows) (k : ℕ) (xs : List Write) (p : Layout) → Post (λ u q. To p q) (write_spots items k xs p)
  writes_settle g items k [] p = nothing p
  writes_settle g items k (x ∷ xs) p =
      goes p (write_spot items k x p) (λ u. write_spots items k xs)
      (write_by g (is_out_path items x.path) (nat_eq x.width 0) k x.width p) (λ u q. writes_settle g items k xs q)

  known_settles : (g : Ground) (k : ℕ) (f : Signature) (o : Option Summary) (p : Layout) → Post (λ u q. To p q) (known_spots g k f o p)
  known_settles g k f None p = nothing p
  known_settles g k f (Some sum) p =
      goes p (state_spots g.source sum.items p)
      (λ u. λ q. goes_on (param_spots sum.items q) (λ u. λ z. goes_on (out_spots g f k sum.items z) (λ u. write_spots sum.items k sum.writes)))
      (states_settle g.source sum.items p)
      (λ u q.
      goes q (param_spots sum.items q) (λ u. λ z. goes_on (out_spots g f k sum.items z) (λ u. write_spots sum.items k sum.writes))
      (params_settle sum.items q)
      (λ u z.
      goes z (out_spots g f k sum.items z) (λ u. write_spots sum.items k sum.writes) (outs_settle g f k sum.items z)
      (λ u y. writes_settle g sum.items k sum.writes y)))

  effect_settles : (g : Ground) (k : ℕ) (x : Site) (o : Option ℕ) (e : Effect) (p : Layout) → Post (λ u q. To p q) (effect_bits g k x o e p)
  effect_settles g k x o (Operation n) p = nothing p
  effect_settles g k x o (Try a b) p = same_locations p _ refl
  effect_settles g k x o (Allocate true) p = same_locations p _ refl
  effect_settles g k x o (Allocate false) p =
      and_then p (record p { bits = p.bits + 1 }) (object_cells g.source o (record p { bits = p.bits + 1 }))
      (same_locations p (record p { bits = p.bits + 1 }) refl) (object_cells_settle g.source o (record p { bits = p.bits + 1 }))
  effect_settles g k x o Release p = nothing p
  effect_settles g k x o Ends p = nothing p
  effect_settles g k x o Expect p = nothing p
  effect_settles g k x o (Known n) p =
      goes p (result_bits g.source x 2 o p) (λ u. known_spots g k (known_callee g.source n) (sum_at g.source n))
      (result_settles g.source x 2 o p) (λ u q. known_settles g k (known_callee g.source n) (sum_at g.source n) q)
  effect_settles g k x o Unknown p = result_settles g.source x 1 o p

  site_settles : (g : Ground) (k : ℕ) (x : Site) (p : Layout) → Post (λ u q. To p q) (number_site g k x p)
  site_settles g k x p =
      let o : Occurrence = slice_index_or p.occurrences k no_occurrence in
      let p' : Layout = record p { bits = p.bits + 0 } in
      and_then p p' (number_site g k x p) (same_locations p p' refl)
      (goes p' (call_bits g k x o p')
      (λ u q. Ok (tt {0}, record q { occurrences = slice_set q.occurrences k (record o { bit = p.bits; spot = length p.spots }) }))
      (effect_settles g k x o.object x.effect p')
      (λ u q. same_locations q (record q { occurrences = slice_set q.occurrences k (record o { bit = p.bits; spot = length p.spots }) }) refl))

  numbers_settle : (turns : ℕ) (g : Ground) (k : ℕ) (x : Site) (p : Layout) → Post (λ u q. To p q) (number_turns turns g k x p)
  numbers_settle zero g k x p = nothing p
  numbers_settle (suc more) g k x p =
      goes p (number_site g k x p) (λ u. number_turns more g (k + 1) x) (site_settles g k x p) (λ u q. numbers_settle more g (k + 1) x q)

  all_settle : (k : ℕ) (xs : List Site) (g : Ground) (p : Layout) → Post (λ u q. To p q) (number_all k xs g p)
  all_settle k [] g p = nothing p
  all_settle k (x ∷ xs) g p =
      goes p (number_turns x.turns g k x p) (λ u. number_all (k + x.turns) xs g) (numbers_settle x.turns g k x p)
      (λ u q. all_settle (k + x.turns) xs g q)

  -- everything behind parameters and globals
  rest : Ground → Layout → Built Layout (Unit {0})
  rest g q =
      goes_on (lay_locals 0 g.source.locals g q) (λ u. λ z. goes_on (lay_literals g.found.literals z)
      (λ u. λ y. goes_on (levels g.source.reach 0 (len q) g y)
      (λ u. λ w. goes_on (occur_all 0 g.found.sites g w) (λ u. number_all 0 g.found.sites g))))

  rest_settles : (g : Ground) (q : Layout) → ((i : ℕ) → i < len q → Entry params globals q i) → Post (λ u z. To q z) (rest g q)
  unfolding rest
  rest_settles g q es =
      chained (λ u z. To q z) (λ u z. To q z) (lay_locals 0 g.source.locals g q)
      (λ u. λ z. goes_on (lay_literals g.found.literals z)
      (λ u. λ y. goes_on (levels g.source.reach 0 (len q) g y)
      (λ u. λ w. goes_on (occur_all 0 g.found.sites g w) (λ u. number_all 0 g.found.sites g))))
      (locals_settle params globals Few g (few_kept g.source) 0 g.source.locals q)
      (λ u z a.
      chained (λ u y. To q y) (λ u y. To q y) (lay_literals g.found.literals z)
      (λ u. λ y. goes_on (levels g.source.reach 0 (len q) g y)
      (λ u. λ w. goes_on (occur_all 0 g.found.sites g w) (λ u. number_all 0 g.found.sites g)))
      (and_then q z (lay_literals g.found.literals z) a (literals_settle params globals Few g (few_kept g.source) g.found.literals z))
      (λ u y b.
      chained (λ u w. To q w) (λ u w. To q w) (levels g.source.reach 0 (len q) g y)
      (λ u. λ w. goes_on (occur_all 0 g.found.sites g w) (λ u. number_all 0 g.found.sites g))
      (and_then q y (levels g.source.reach 0 (len q) g y) b
      (levels_settle params globals Few g (few_kept g.source) g.source.reach 0 (len q) y b.stays.longer
      (λ i low high. entry_stays params globals q y b.stays i high (es i high))))
      (λ u w c.
      and_then q w (goes_on (occur_all 0 g.found.sites g w) (λ u. number_all 0 g.found.sites g)) c
      (goes w (occur_all 0 g.found.sites g w) (λ u. number_all 0 g.found.sites g) (calls_settle 0 g.found.sites g w)
      (λ u v. all_settle 0 g.found.sites g v)))))

  -- a layout that is laid out
  pub record IsSettled (p : Layout) : Type 0 where
    pub few : len p ≤ 256
    pub settled : (i : ℕ) → i < len p → Settled params globals p i

  settled_from : (p q : Layout) → len p ≡ 0 → To p q → IsSettled q
  unfolding Few
  settled_from p q none a = record {
    few = a.keeps (omega (arith, none));
    settled = λ i high. a.settled i (omega (arith, none)) high;
  }

  laid_settles : (g : Ground) (p : Layout) → len p ≡ 0 → length g.source.params ≤ params → length g.source.globals ≤ globals
      → AllByRecursion (λ t. parts_of g.source t ≡ NoParts) g.source.params → Post (λ u q. IsSettled q) (lay_out g p)
  unfolding rest
  laid_settles g p none few few_globals alone =
      weaker (λ u q. To p q) (λ u q. IsSettled q) (lay_out g p)
      (entered_rest (lay_params 0 g.source.params g p) (entered params globals Few g (few_kept g.source) p none few few_globals alone))
      (λ u q a. settled_from p q none a)
    where
      entered_rest : (m : Built Layout (Unit {0}))
          → Post (λ u q. Enters params globals Few g (few_kept g.source) p q) (goes_on m (λ u. lay_globals 0 g.source.globals g))
          → Post (λ u q. To p q) (goes_on m (λ u. λ z. goes_on (lay_globals 0 g.source.globals g z) (λ u. λ q. rest g q)))
      entered_rest (Err e) h = tt
      entered_rest (Ok (u, z)) h =
          chained (λ u q. Enters params globals Few g (few_kept g.source) p q) (λ u q. To p q) (lay_globals 0 g.source.globals g z) (λ u. λ q. rest g q) h
          (λ u q a.
          and_then p q (rest g q) a.settles (rest_settles g q (λ i high. a.entries i (omega (arith, none)) high)))

no_parts : (s : Source) (t : Ty) → is_integer t || is_pointer t ≡ true → parts_of s t ≡ NoParts
no_parts s Void h = refl
no_parts s Bool' h = refl
no_parts s (Int k) h = refl
no_parts s (Ptr t) h = refl
no_parts s (Array t n) h = absurd (true≢false (sym h))
no_parts s (Struct n) h = absurd (true≢false (sym h))
no_parts s (Union n) h = refl
no_parts s (Func t k ts v) h = refl
no_parts s (Opaque k) h = refl

all_no_parts : (s : Source) (ts : List Ty) → AllByRecursion (λ t. is_integer t || is_pointer t ≡ true) ts
    → AllByRecursion (λ t. parts_of s t ≡ NoParts) ts
all_no_parts s [] h = tt
all_no_parts s (t ∷ ts) (h, hs) = (no_parts s t h, all_no_parts s ts hs)

-- what holds of the layout, if there is one
abbrev pub OfLayout : (Layout → Type 0) → Result Layout LimitKind → Type 0
OfLayout P (Ok p) = P p
OfLayout P (Err e) = Unit {0}

pub laid_of : {A : Type 0} (P : Layout → Type 0) (m : Built Layout A) → Post (λ a p. P p) m → OfLayout P (laid m)
laid_of P (Ok (a, p)) h = h
laid_of P (Err e) h = tt

pub places_settle : (s : Source) → AllByRecursion (λ t. is_integer t || is_pointer t ≡ true) s.params
    → OfLayout (IsSettled (length s.params) (length s.globals)) (places s)
places_settle s typed = by (gather_function s nothing_found)
  where
    by : (m : Built Found (Unit {0})) → OfLayout (IsSettled (length s.params) (length s.globals)) (places_of s m)
    by (Err e) = tt
    by (Ok (u, f)) =
        laid_of (IsSettled (length s.params) (length s.globals))
        (lay_out (record { source = s; found = f }) (record no_layout { sites = f.sites }))
        (laid_settles (length s.params) (length s.globals) (record { source = s; found = f }) (record no_layout { sites = f.sites }) refl
        (omega arith) (omega arith) (all_no_parts s s.params typed))
