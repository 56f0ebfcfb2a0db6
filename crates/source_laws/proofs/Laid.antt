-- The layout of a function, with names that come later and without them: what was found is the same.
use Rattle.std.proofs.Common.{◌≡◌, ℕ, zero, suc, ◌+◌, ◌-◌, List, [], ◌∷◌, length, refl, ◌∙◌, ⊎_elim, arith}
use Rattle.std.proofs.lemmas.Bool.{cases_lt}
use Rattle.std.proofs.lemmas.List.{get_or_past}
use Rattle.std.specs.Prelude.{Bool, true, false, Option, Some, None, Ok, Err, nat_eq, slice_index_or, if◌then◌else◌}
use Rattle.std.specs.List.{list_any}
use Rattle.sum_rows.specs.declared.row.Item.{Item}
use Rattle.sum_rows.specs.declared.row.Item.TheVariants as item
use Rattle.sum_rows.specs.declared.row.ItemRows.{ItemRows}
use Rattle.sum_rows.specs.declared.row.Summary.{Summary}
use Rattle.sc_world.specs.declared.run.Origin.{Origin}
use Rattle.sc_world.specs.declared.run.Origin.TheVariants as origin
use Rattle.sc_world.specs.Tree.{Ty, is_pointer, target_or_void}
use Rattle.sc_world.specs.Build.{Built, ◌>>=◌, done}
use Rattle.sc_world.specs.Source.{Source, Signature, Effect, Try, Allocate, Known, Unknown, sum_at}
use Rattle.sc_world.specs.Gather.{Found, Site, nothing_found, gather_function}
use Rattle.sc_world.specs.Layout.{is_pointer_cell, no_layout}
use Rattle.sc_world.specs.Objects.{Ground, Chosen, Nothing, Cells, CellsAndStates, Behind, Object, Stub, object, whole, add, parts, root_or, behind, type_or_void, set_target, follow_at, follow_all, lay_params, lay_global, lay_globals, lay_locals, lay_literals, levels, count, location_now, take_bits}
use Rattle.sc_world.specs.Occurrences.{is_zeroed, stubs_behind, object_if, push_occurrence, occurrences_now, occur_once, occur, occur_all, cell_if, cells_from, object_cells, result_bits, push_spot, spots_now, state_spots, param_spots, param_type, out_object, out_spot, out_spots, write_spots, known_spots, known_callee, effect_bits, occurrence_now, put_occurrence, number_site, number_turns, number_all}
use Rattle.sc_world.specs.Places.{lay_out, laid, places_of, places}
use Rattle.source_laws.specs.Named.{Tables, with_tables, IsFront, SignaturesAgree, StatementCallsBelow}
use Rattle.source_laws.proofs.Names.{there}
use Rattle.source_laws.proofs.Gathered.{gather_function_same}

module _ (old new : Tables) (s : Source) (agree : SignaturesAgree old new s) (f : Found) where
  abbrev one : Ground
  one = record { source = with_tables s old; found = f }

  abbrev other : Ground
  other = record { source = with_tables s new; found = f }

  object_same : (deep : ℕ) (c : Chosen) (root : Option ℕ) (t : Ty) (o : Origin)
      → object deep one c root t o ≡ object deep other c root t o
  unfolding object
  object_same zero c root t o = refl
  object_same (suc deep) c root t o = λ i. do
    at ← add s c root t o
    _ ← parts one (λ u p. object_same deep c (Some (root_or root at)) u p i) at t
    done at

  whole_same : (c : Chosen) (t : Ty) (o : Origin) → whole one c t o ≡ whole other c t o
  whole_same c t o = object_same 257 c None t o

  behind_same : (b : Behind) (at : ℕ) (t : Ty) → behind one b at t ≡ behind other b at t
  behind_same (Object c) at t = whole_same c t (origin.Target at)
  behind_same Stub at t = refl

  follow_at_same : (b : Behind) (at : ℕ) → follow_at one b at ≡ follow_at other b at
  follow_at_same b at = λ i. location_now at >>= λ l.
      if is_pointer_cell l
      then (behind_same b at (target_or_void (type_or_void l.type)) i >>= λ to. set_target at to)
      else done tt

  follow_all_same : (more at : ℕ) (b : Behind) → follow_all more at one b ≡ follow_all more at other b
  follow_all_same zero at b = refl
  follow_all_same (suc more) at b = λ i. do
    _ ← follow_at_same b at i
    follow_all_same more (at + 1) b i

  lay_params_same : (k : ℕ) (ts : List Ty) → lay_params k ts one ≡ lay_params k ts other
  lay_params_same k [] = refl
  lay_params_same k (t ∷ ts) = λ i. do
    _ ← whole_same Cells t (origin.Param k) i
    lay_params_same (k + 1) ts i

  lay_global_same : (k : ℕ) (t : Ty) → lay_global one k t ≡ lay_global other k t
  lay_global_same k t = λ i.
      if list_any (nat_eq k) f.globals
      then (whole_same CellsAndStates t (origin.Global k) i >>= λ _. done tt)
      else done tt

  lay_globals_same : (k : ℕ) (ts : List Ty) → lay_globals k ts one ≡ lay_globals k ts other
  lay_globals_same k [] = refl
  lay_globals_same k (t ∷ ts) = λ i. do
    _ ← lay_global_same k t i
    lay_globals_same (k + 1) ts i

  lay_locals_same : (k : ℕ) (ts : List Ty) → lay_locals k ts one ≡ lay_locals k ts other
  lay_locals_same k [] = refl
  lay_locals_same k (t ∷ ts) = λ i. do
    _ ← whole_same Nothing t (origin.Local k) i
    lay_locals_same (k + 1) ts i

  levels_same : (reach from to : ℕ) → levels reach from to one ≡ levels reach from to other
  levels_same zero from to = follow_all_same (to - from) from Stub
  levels_same (suc reach) from to = λ i. do
    start ← count
    _ ← follow_all_same (to - from) from (Object CellsAndStates) i
    end ← count
    levels_same reach start end i

  -- Calls in their turns.

  stubs_behind_same : (b : Bool) (from to : ℕ) → stubs_behind b from to one ≡ stubs_behind b from to other
  stubs_behind_same true from to = refl
  stubs_behind_same false from to = follow_all_same (to - from) from Stub

  object_if_same : (b : Bool) (n : ℕ) (x : Site) → object_if b one n x ≡ object_if b other n x
  object_if_same true n x = λ i. do
    at ← whole_same Nothing x.object (origin.Call n) i
    end ← count
    _ ← stubs_behind_same (is_zeroed x.effect) at end i
    done (Some at)
  object_if_same false n x = refl

  occur_once_same : (k : ℕ) (x : Site) → occur_once one k x ≡ occur_once other k x
  occur_once_same k x = λ i. do
    n ← occurrences_now
    object ← object_if_same (is_pointer x.result) n x i
    push_occurrence (record { site = k; object = object; bit = 0; spot = 0 })

  occur_same : (turns k : ℕ) (x : Site) → occur turns one k x ≡ occur turns other k x
  occur_same zero k x = refl
  occur_same (suc more) k x = λ i. do
    _ ← occur_once_same k x i
    occur_same more k x i

  occur_all_same : (k : ℕ) (xs : List Site) → occur_all k xs one ≡ occur_all k xs other
  occur_all_same k [] = refl
  occur_all_same k (x ∷ xs) = λ i. do
    _ ← occur_same x.turns k x i
    occur_all_same (k + 1) xs i

  cells_from_same : (more at root : ℕ) → cells_from more at root (with_tables s old) ≡ cells_from more at root (with_tables s new)
  cells_from_same zero at root = refl
  cells_from_same (suc more) at root = λ i. do
    _ ← location_now at >>= λ l. cell_if s root at l
    cells_from_same more (at + 1) root i

  object_cells_same : (o : Option ℕ) → object_cells (with_tables s old) o ≡ object_cells (with_tables s new) o
  object_cells_same None = refl
  object_cells_same (Some at) = λ i. count >>= λ n. cells_from_same (n - at) at at i

  result_bits_same : (x : Site) (n : ℕ) (o : Option ℕ)
      → result_bits (with_tables s old) x n o ≡ result_bits (with_tables s new) x n o
  result_bits_same x n o = λ i.
      if Rattle.sc_world.specs.Tree.is_integer x.result
      then (take_bits (Rattle.sc_world.specs.Tree.int_bits s.widths x.result) >>= λ _. done tt)
      else (if is_pointer x.result then (take_bits n >>= λ _. object_cells_same o i) else done tt)

  out_object_same : (g : Signature) (n k : ℕ) → out_object one g n k ≡ out_object other g n k
  out_object_same g n k = λ i. do
    at ← whole_same Cells (target_or_void (target_or_void (param_type g n))) (origin.Call k) i
    end ← count
    _ ← follow_all_same (end - at) at Stub i
    done at

  out_spot_same : (g : Signature) (k : ℕ) (x : Item) → out_spot one g k x ≡ out_spot other g k x
  out_spot_same g k (item.Out n) = λ i. do
    b ← take_bits 2
    at ← out_object_same g n k i
    push_spot b (Some at)
  out_spot_same g k _ = refl

  out_spots_same : (g : Signature) (k : ℕ) (xs : List ItemRows) → out_spots one g k xs ≡ out_spots other g k xs
  out_spots_same g k [] = refl
  out_spots_same g k (x ∷ xs) = λ i. out_spot_same g k x.item i >>= λ _. out_spots_same g k xs i

  known_spots_same : (k : ℕ) (g : Signature) (x : Option Summary) → known_spots one k g x ≡ known_spots other k g x
  known_spots_same k g None = refl
  known_spots_same k g (Some sum) = λ i. do
    _ ← state_spots s sum.items
    _ ← param_spots sum.items
    _ ← out_spots_same g k sum.items i
    write_spots sum.items k sum.writes

  -- where a callee has a summary its signature is the same
  unknown_same : (k n : ℕ) (x : Option Summary) → x ≡ None
      → known_spots one k (known_callee (with_tables s old) n) x ≡ known_spots other k (known_callee (with_tables s new) n) x
  unknown_same k n None e = refl
  unknown_same k n (Some sum) e = cc

  known_same : (k n : ℕ) → known_spots one k (known_callee (with_tables s old) n) (sum_at s n)
      ≡ known_spots other k (known_callee (with_tables s new) n) (sum_at s n)
  known_same k n =
      ⊎_elim
      (λ low. (λ i. known_spots one k (agree.same (slice_index_or s.kept n 0) (there s.kept n low) i) (sum_at s n))
      ∙ known_spots_same k (known_callee (with_tables s new) n) (sum_at s n))
      (λ past. unknown_same k n (sum_at s n) (get_or_past s.sums n None (omega (arith, past, agree.sums))))
      (cases_lt n (length s.kept))

  effect_bits_same : (k : ℕ) (x : Site) (o : Option ℕ) (e : Effect) → effect_bits one k x o e ≡ effect_bits other k x o e
  effect_bits_same k x o (Try a b) = refl
  effect_bits_same k x o (Allocate true) = refl
  effect_bits_same k x o (Allocate false) = λ i. take_bits 1 >>= λ _. object_cells_same o i
  effect_bits_same k x o Unknown = result_bits_same x 1 o
  effect_bits_same k x o (Known n) = λ i. do
    _ ← result_bits_same x 2 o i
    known_same k n i
  effect_bits_same k x o _ = refl

  number_site_same : (k : ℕ) (x : Site) → number_site one k x ≡ number_site other k x
  number_site_same k x = λ i. do
    o ← occurrence_now k
    b ← take_bits 0
    n ← spots_now
    _ ← effect_bits_same k x o.object x.effect i
    put_occurrence k (record o { bit = b; spot = n })

  number_turns_same : (turns k : ℕ) (x : Site) → number_turns turns one k x ≡ number_turns turns other k x
  number_turns_same zero k x = refl
  number_turns_same (suc more) k x = λ i. do
    _ ← number_site_same k x i
    number_turns_same more (k + 1) x i

  number_all_same : (k : ℕ) (xs : List Site) → number_all k xs one ≡ number_all k xs other
  number_all_same k [] = refl
  number_all_same k (x ∷ xs) = λ i. do
    _ ← number_turns_same x.turns k x i
    number_all_same (k + x.turns) xs i

  pub lay_out_same : lay_out one ≡ lay_out other
  lay_out_same = λ i. do
    _ ← lay_params_same 0 s.params i
    _ ← lay_globals_same 0 s.globals i
    entered ← count
    _ ← lay_locals_same 0 s.locals i
    _ ← lay_literals f.literals
    _ ← levels_same s.reach 0 entered i
    _ ← occur_all_same 0 f.sites i
    number_all_same 0 f.sites i

places_of_same : (old new : Tables) (s : Source) → SignaturesAgree old new s → (b : Built Found (Unit {0})) → places_of (with_tables s old) b ≡ places_of (with_tables s new) b
places_of_same old new s agree (Ok (u, f)) = λ i. laid (lay_out_same old new s agree f i (record no_layout { sites = f.sites }))
places_of_same old new s agree (Err e) = refl

pub places_same : (old new : Tables) → IsFront old.names new.names → (s : Source) → SignaturesAgree old new s → StatementCallsBelow (length old.names) s.body
    → places (with_tables s old) ≡ places (with_tables s new)
places_same old new front s agree c = (λ i. places_of (with_tables s old) (gather_function_same old new front s agree c i nothing_found))
    ∙ places_of_same old new s agree (gather_function (with_tables s new) nothing_found)
