-- Calls in their turns.
use Rattle.std.proofs.Common.{ℕ, zero, suc, ◌+◌, ◌-◌, nat_eq, Bool, true, false, List, [], ◌∷◌, refl, arith}
use Rattle.std.specs.Prelude.{Option, Some, None, if◌then◌else◌}
use Rattle.sum_rows.specs.declared.row.Item.{Item}
use Rattle.sum_rows.specs.declared.row.Item.TheVariants as item
use Rattle.sum_rows.specs.declared.row.ItemRows.{ItemRows}
use Rattle.sum_rows.specs.declared.row.Summary.{Summary}
use Rattle.sum_rows.specs.declared.row.Write.{Write}
use Rattle.sc_world.specs.declared.run.Origin.TheVariants as origin
use Rattle.sc_world.specs.Tree.{is_integer, is_pointer, int_bits, target_or_void}
use Rattle.sc_world.specs.Build.{◌>>=◌, done}
use Rattle.sc_world.specs.Source.{Source, Signature, Effect, Operation, Try, Allocate, Release, Ends, Expect, Known, Unknown, sum_at}
use Rattle.sc_world.specs.Gather.{Site}
use Rattle.sc_world.specs.Layout.{Layout, location, is_cell}
use Rattle.sc_world.specs.Objects.{Ground, Nothing, Cells, Stub, whole, stub, count, follow_range, take_bits, location_now, put_at, cell_bits, state_bits, type_or_void}
use Rattle.sc_world.specs.Occurrences.{is_zeroed, stubs_behind, object_if, push_occurrence, occurrences_now, occur_once, occur, occur_all, cell_if, cells_from, object_cells, result_bits, push_spot, spots_now, spot_of, state_spot, state_spots, param_spot, param_spots, param_type, out_object, out_spot, out_spots, is_out_path, pointer_spot, write_spot, write_spots, known_spots, known_callee, effect_bits, call_bits, occurrence_now, put_occurrence, number_site, number_turns, number_all}
use Rattle.object_laws.proofs.Steps.{After, Good, Grows, Keeps, bits_keep, done_keeps, if_keeps, length_set, same_keeps, nothing_keeps, set_good, stub_keeps, joined, unit_done}
use Rattle.object_laws.proofs.Objects.{range_keeps, whole_keeps}

pub count_keeps : (n : ℕ) → Keeps n count
count_keeps n = same_keeps n count (λ p. refl)

-- The objects of calls.

stubs_keep : (b : Bool) (from to : ℕ) (g : Ground) → Keeps 0 (stubs_behind b from to g)
stubs_keep true from to g = nothing_keeps 0
stubs_keep false from to g = range_keeps from to g Stub

object_keeps : (b : Bool) (g : Ground) (n : ℕ) (s : Site) → Keeps 0 (object_if b g n s)
object_keeps false g n s = done_keeps {A = Option ℕ} 0 None
object_keeps true g n s =
    joined 0 (whole g Nothing s.object (origin.Call n)) (λ at. count >>= λ end. stubs_behind (is_zeroed s.effect) at end g >>= λ _. done (Some at))
    (whole_keeps g Nothing s.object (origin.Call n))
    (λ at.
    joined 0 count (λ end. stubs_behind (is_zeroed s.effect) at end g >>= λ _. done (Some at)) (count_keeps 0)
    (λ end.
    joined 0 (stubs_behind (is_zeroed s.effect) at end g) (λ _. done (Some at)) (stubs_keep (is_zeroed s.effect) at end g)
    (λ _. done_keeps 0 (Some at))))

once_keeps : (g : Ground) (k : ℕ) (s : Site) → Keeps 0 (occur_once g k s)
once_keeps g k s =
    joined 0 occurrences_now
    (λ n. object_if (is_pointer s.result) g n s >>= λ object. push_occurrence (record { site = k; object = object; bit = 0; spot = 0 }))
    (same_keeps 0 occurrences_now (λ p. refl))
    (λ n.
    joined 0 (object_if (is_pointer s.result) g n s) (λ object. push_occurrence (record { site = k; object = object; bit = 0; spot = 0 }))
    (object_keeps (is_pointer s.result) g n s)
    (λ object.
    same_keeps 0 (push_occurrence (record { site = k; object = object; bit = 0; spot = 0 })) (λ p. refl)))

occur_keeps : (turns : ℕ) (g : Ground) (k : ℕ) (s : Site) → Keeps 0 (occur turns g k s)
occur_keeps zero g k s = nothing_keeps 0
occur_keeps (suc more) g k s = joined 0 (occur_once g k s) (λ _. occur more g k s) (once_keeps g k s) (λ _. occur_keeps more g k s)

pub occur_all_keeps : (k : ℕ) (ss : List Site) (g : Ground) → Keeps 0 (occur_all k ss g)
occur_all_keeps k [] g = nothing_keeps 0
occur_all_keeps k (s ∷ ss) g =
    joined 0 (occur s.turns g k s) (λ _. occur_all (k + 1) ss g) (occur_keeps s.turns g k s) (λ _. occur_all_keeps (k + 1) ss g)

-- The bits of cells.

cell_by : (s : Source) (at : ℕ) (p : Layout) → Good p.locations → (own cell : Bool)
    → After (λ a q. Grows p q)
    ((if own
    then (if cell
    then (take_bits (cell_bits s (type_or_void (location p at).type)) >>= λ b. put_at at (record (location p at) { bit = Some b }))
    else unit_done)
    else unit_done)
    p)
cell_by s at p good true true =
    record {
      longer = omega (arith, length_set p.locations at (record (location p at) { bit = Some p.bits }));
      good = set_good p.locations at (record (location p at) { bit = Some p.bits }) refl good;
    }
cell_by s at p good true false = record { longer = omega arith; good = good }
cell_by s at p good false cell = record { longer = omega arith; good = good }

cell_keeps : (s : Source) (root at : ℕ) → Keeps 0 (location_now at >>= λ l. cell_if s root at l)
cell_keeps s root at p low good = cell_by s at p good (nat_eq (location p at).root root) (is_cell (location p at))

cells_keep : (more at root : ℕ) (s : Source) → Keeps 0 (cells_from more at root s)
cells_keep zero at root s = nothing_keeps 0
cells_keep (suc more) at root s =
    joined 0 (location_now at >>= λ l. cell_if s root at l) (λ _. cells_from more (at + 1) root s) (cell_keeps s root at)
    (λ _. cells_keep more (at + 1) root s)

object_cells_keep : (s : Source) (x : Option ℕ) → Keeps 0 (object_cells s x)
object_cells_keep s None = nothing_keeps 0
object_cells_keep s (Some at) = joined 0 count (λ n. cells_from (n - at) at at s) (count_keeps 0) (λ n. cells_keep (n - at) at at s)

result_keeps : (s : Source) (x : Site) (bits : ℕ) (object : Option ℕ) → Keeps 0 (result_bits s x bits object)
result_keeps s x bits object =
    if_keeps 0 (is_integer x.result) (take_bits (int_bits s.widths x.result) >>= λ _. unit_done)
    (if is_pointer x.result then (take_bits bits >>= λ _. object_cells s object) else done tt)
    (joined 0 (take_bits (int_bits s.widths x.result)) (λ _. unit_done) (bits_keep 0 (int_bits s.widths x.result)) (λ _. nothing_keeps 0))
    (if_keeps 0 (is_pointer x.result) (take_bits bits >>= λ _. object_cells s object) unit_done
    (joined 0 (take_bits bits) (λ _. object_cells s object) (bits_keep 0 bits) (λ _. object_cells_keep s object)) (nothing_keeps 0))

-- What the choice says of the items of a known call.

spot_pushed : (bit : ℕ) (object : Option ℕ) → Keeps 0 (push_spot bit object)
spot_pushed bit object = same_keeps 0 (push_spot bit object) (λ p. refl)

spot_keeps : (bits : ℕ) → Keeps 0 (spot_of bits)
spot_keeps bits = joined 0 (take_bits bits) (λ b. push_spot b None) (bits_keep 0 bits) (λ b. spot_pushed b None)

state_keeps : (s : Source) (x : Item) → Keeps 0 (state_spot s x)
state_keeps s (item.Lock path) = spot_keeps (1 + state_bits s)
state_keeps s item.Exit = nothing_keeps 0
state_keeps s (item.Param n) = nothing_keeps 0
state_keeps s (item.Out n) = nothing_keeps 0

states_keep : (s : Source) (xs : List ItemRows) → Keeps 0 (state_spots s xs)
states_keep s [] = nothing_keeps 0
states_keep s (x ∷ xs) = joined 0 (state_spot s x.item) (λ _. state_spots s xs) (state_keeps s x.item) (λ _. states_keep s xs)

param_keeps : (x : Item) → Keeps 0 (param_spot x)
param_keeps (item.Param n) = spot_keeps 2
param_keeps item.Exit = nothing_keeps 0
param_keeps (item.Lock path) = nothing_keeps 0
param_keeps (item.Out n) = nothing_keeps 0

params_keep : (xs : List ItemRows) → Keeps 0 (param_spots xs)
params_keep [] = nothing_keeps 0
params_keep (x ∷ xs) = joined 0 (param_spot x.item) (λ _. param_spots xs) (param_keeps x.item) (λ _. params_keep xs)

out_object_keeps : (g : Ground) (f : Signature) (n k : ℕ) → Keeps 0 (out_object g f n k)
out_object_keeps g f n k =
    joined 0 (whole g Cells (target_or_void (target_or_void (param_type f n))) (origin.Call k))
    (λ at. count >>= λ end. follow_range at end g Stub >>= λ _. done at)
    (whole_keeps g Cells (target_or_void (target_or_void (param_type f n))) (origin.Call k))
    (λ at.
    joined 0 count (λ end. follow_range at end g Stub >>= λ _. done at) (count_keeps 0)
    (λ end.
    joined 0 (follow_range at end g Stub) (λ _. done at) (range_keeps at end g Stub) (λ _. done_keeps 0 at)))

out_keeps : (g : Ground) (f : Signature) (k : ℕ) (x : Item) → Keeps 0 (out_spot g f k x)
out_keeps g f k (item.Out n) =
    joined 0 (take_bits 2) (λ b. out_object g f n k >>= λ at. push_spot b (Some at)) (bits_keep 0 2)
    (λ b.
    joined 0 (out_object g f n k) (λ at. push_spot b (Some at)) (out_object_keeps g f n k) (λ at. spot_pushed b (Some at)))
out_keeps g f k item.Exit = nothing_keeps 0
out_keeps g f k (item.Lock path) = nothing_keeps 0
out_keeps g f k (item.Param n) = nothing_keeps 0

outs_keep : (g : Ground) (f : Signature) (k : ℕ) (xs : List ItemRows) → Keeps 0 (out_spots g f k xs)
outs_keep g f k [] = nothing_keeps 0
outs_keep g f k (x ∷ xs) = joined 0 (out_spot g f k x.item) (λ _. out_spots g f k xs) (out_keeps g f k x.item) (λ _. outs_keep g f k xs)

pointer_keeps : (k : ℕ) → Keeps 0 (pointer_spot k)
pointer_keeps k =
    joined 0 (stub (origin.Call k)) (λ at. take_bits 1 >>= λ b. push_spot b (Some at)) (stub_keeps 0 (origin.Call k))
    (λ at.
    joined 0 (take_bits 1) (λ b. push_spot b (Some at)) (bits_keep 0 1) (λ b. spot_pushed b (Some at)))

write_keeps : (items : List ItemRows) (k : ℕ) (x : Write) → Keeps 0 (write_spot items k x)
write_keeps items k x =
    if_keeps 0 (is_out_path items x.path) unit_done (if nat_eq x.width 0 then pointer_spot k else spot_of x.width) (nothing_keeps 0)
    (if_keeps 0 (nat_eq x.width 0) (pointer_spot k) (spot_of x.width) (pointer_keeps k) (spot_keeps x.width))

writes_keep : (items : List ItemRows) (k : ℕ) (xs : List Write) → Keeps 0 (write_spots items k xs)
writes_keep items k [] = nothing_keeps 0
writes_keep items k (x ∷ xs) = joined 0 (write_spot items k x) (λ _. write_spots items k xs) (write_keeps items k x) (λ _. writes_keep items k xs)

known_keeps : (g : Ground) (k : ℕ) (f : Signature) (sum : Option Summary) → Keeps 0 (known_spots g k f sum)
known_keeps g k f None = nothing_keeps 0
known_keeps g k f (Some sum) =
    joined 0 (state_spots g.source sum.items) (λ _. param_spots sum.items >>= λ _. out_spots g f k sum.items >>= λ _. write_spots sum.items k sum.writes)
    (states_keep g.source sum.items)
    (λ _.
    joined 0 (param_spots sum.items) (λ _. out_spots g f k sum.items >>= λ _. write_spots sum.items k sum.writes) (params_keep sum.items)
    (λ _.
    joined 0 (out_spots g f k sum.items) (λ _. write_spots sum.items k sum.writes) (outs_keep g f k sum.items)
    (λ _. writes_keep sum.items k sum.writes)))

-- The bits of calls.

effect_keeps : (g : Ground) (k : ℕ) (x : Site) (object : Option ℕ) (e : Effect) → Keeps 0 (effect_bits g k x object e)
effect_keeps g k x object (Try a b) = joined 0 (take_bits 1) (λ _. unit_done) (bits_keep 0 1) (λ _. nothing_keeps 0)
effect_keeps g k x object (Allocate true) = joined 0 (take_bits 1) (λ _. unit_done) (bits_keep 0 1) (λ _. nothing_keeps 0)
effect_keeps g k x object (Allocate false) =
    joined 0 (take_bits 1) (λ _. object_cells g.source object) (bits_keep 0 1) (λ _. object_cells_keep g.source object)
effect_keeps g k x object Unknown = result_keeps g.source x 1 object
effect_keeps g k x object (Known n) =
    joined 0 (result_bits g.source x 2 object) (λ _. known_spots g k (known_callee g.source n) (sum_at g.source n)) (result_keeps g.source x 2 object)
    (λ _. known_keeps g k (known_callee g.source n) (sum_at g.source n))
effect_keeps g k x object (Operation n) = nothing_keeps 0
effect_keeps g k x object Release = nothing_keeps 0
effect_keeps g k x object Ends = nothing_keeps 0
effect_keeps g k x object Expect = nothing_keeps 0

site_keeps : (g : Ground) (k : ℕ) (x : Site) → Keeps 0 (number_site g k x)
site_keeps g k x =
    joined 0 (occurrence_now k)
    (λ o. take_bits 0 >>= λ b. spots_now >>= λ n. call_bits g k x o >>= λ _. put_occurrence k (record o { bit = b; spot = n }))
    (same_keeps 0 (occurrence_now k) (λ p. refl))
    (λ o.
    joined 0 (take_bits 0) (λ b. spots_now >>= λ n. call_bits g k x o >>= λ _. put_occurrence k (record o { bit = b; spot = n })) (bits_keep 0 0)
    (λ b.
    joined 0 spots_now (λ n. call_bits g k x o >>= λ _. put_occurrence k (record o { bit = b; spot = n })) (same_keeps 0 spots_now (λ p. refl))
    (λ n.
    joined 0 (call_bits g k x o) (λ _. put_occurrence k (record o { bit = b; spot = n })) (effect_keeps g k x o.object x.effect)
    (λ _.
    same_keeps 0 (put_occurrence k (record o { bit = b; spot = n })) (λ p. refl)))))

turns_keep : (turns : ℕ) (g : Ground) (k : ℕ) (x : Site) → Keeps 0 (number_turns turns g k x)
turns_keep zero g k x = nothing_keeps 0
turns_keep (suc more) g k x = joined 0 (number_site g k x) (λ _. number_turns more g (k + 1) x) (site_keeps g k x) (λ _. turns_keep more g (k + 1) x)

pub number_keeps : (k : ℕ) (xs : List Site) (g : Ground) → Keeps 0 (number_all k xs g)
number_keeps k [] g = nothing_keeps 0
number_keeps k (x ∷ xs) g =
    joined 0 (number_turns x.turns g k x) (λ _. number_all (k + x.turns) xs g) (turns_keep x.turns g k x) (λ _. number_keeps (k + x.turns) xs g)
