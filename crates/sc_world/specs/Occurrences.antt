-- Calls in their turns: the objects that they give, and the bits that choose what they do.
use Rattle.std.specs.Prelude.{ℕ, zero, suc, ◌+◌, ◌-◌, ◌*◌, nat_eq, nat_lt, Bool, true, false, not, ◌&&◌, ◌||◌, Option, Some, None, List, [], ◌∷◌, ◌++◌, length, slice_index_or, slice_set, Ok, if◌then◌else◌}
use Rattle.std.specs.List.{list_any}
use Rattle.sum_rows.specs.declared.path.Path.{Path}
use Rattle.sum_rows.specs.declared.path.Root.{Root}
use Rattle.sum_rows.specs.declared.path.Root.TheVariants as root
use Rattle.sum_rows.specs.declared.path.Step.{Step}
use Rattle.sum_rows.specs.declared.path.Step.TheVariants as step
use Rattle.sum_rows.specs.declared.row.Item.{Item}
use Rattle.sum_rows.specs.declared.row.Item.TheVariants as item
use Rattle.sum_rows.specs.declared.row.ItemRows.{ItemRows}
use Rattle.sum_rows.specs.declared.row.Summary.{Summary}
use Rattle.sum_rows.specs.declared.row.Write.{Write}
use Rattle.sc_world.specs.declared.run.Origin.{Origin}
use Rattle.sc_world.specs.declared.run.Origin.TheVariants as origin
use Rattle.sc_world.specs.Tree.{Ty, Void, is_integer, is_pointer, int_bits, target_or_void}
use Rattle.sc_world.specs.Build.{Build, ◌>>=◌, done}
use Rattle.sc_world.specs.Source.{Source, Signature, Effect, Operation, Try, Allocate, Release, Ends, Expect, Known, Unknown, signature_at, sum_at}
use Rattle.sc_world.specs.Gather.{Site}
use Rattle.sc_world.specs.Layout.{Layout, Location, Occurrence, Spot, no_occurrence, is_cell}
use Rattle.sc_world.specs.Objects.{Ground, Laying, Nothing, Cells, Stub, whole, stub, count, follow_range, take_bits, location_now, put_at, cell_bits, state_bits, type_or_void}

-- The object of a call with a pointer result, and a stub behind each pointer cell of it; where it is zeroed its
-- pointers are null.

abbrev pub is_zeroed : Effect → Bool
is_zeroed (Allocate zeroed) = zeroed
is_zeroed _ = false

abbrev pub stubs_behind : Bool → ℕ → ℕ → Ground → Laying (Unit {0})
stubs_behind true from to g = done tt
stubs_behind false from to g = follow_range from to g Stub

abbrev pub call_object : Ground → ℕ → Site → Laying (Option ℕ)
call_object g n s = do
  at ← whole g Nothing s.object (origin.Call n)
  end ← count
  _ ← stubs_behind (is_zeroed s.effect) at end g
  done (Some at)

abbrev pub object_if : Bool → Ground → ℕ → Site → Laying (Option ℕ)
object_if true g n s = call_object g n s
object_if false g n s = done None

abbrev pub push_occurrence : Occurrence → Laying (Unit {0})
push_occurrence o p = Ok (tt, record p { occurrences = p.occurrences ++ o ∷ [] })

abbrev pub occurrences_now : Laying ℕ
occurrences_now p = Ok (length p.occurrences, p)

-- one call in one turn
abbrev pub occur_once : Ground → ℕ → Site → Laying (Unit {0})
occur_once g k s = do
  n ← occurrences_now
  object ← object_if (is_pointer s.result) g n s
  push_occurrence (record { site = k; object = object; bit = 0; spot = 0 })

abbrev pub occur : (turns : ℕ) → Ground → ℕ → Site → Laying (Unit {0})
occur zero g k s = done tt
occur (suc more) g k s = do
  _ ← occur_once g k s
  occur more g k s

abbrev pub occur_all : ℕ → List Site → Ground → Laying (Unit {0})
occur_all k [] g = done tt
occur_all k (s ∷ ss) g = do
  _ ← occur s.turns g k s
  occur_all (k + 1) ss g

-- The bits of the cells of an object: of all locations that have it as their root, from its own number on.
abbrev pub cell_at : Source → ℕ → Location → Laying (Unit {0})
cell_at s at l =
    if is_cell l
    then (take_bits (cell_bits s (type_or_void l.type)) >>= λ b. put_at at (record l { bit = Some b }))
    else done tt

abbrev pub cell_if : Source → (root at : ℕ) → Location → Laying (Unit {0})
cell_if s root at l = if nat_eq l.root root then cell_at s at l else done tt

abbrev pub cells_from : (more at root : ℕ) → Source → Laying (Unit {0})
cells_from zero at root s = done tt
cells_from (suc more) at root s = do
  _ ← location_now at >>= λ l. cell_if s root at l
  cells_from more (at + 1) root s

abbrev pub object_cells : Source → Option ℕ → Laying (Unit {0})
object_cells s None = done tt
object_cells s (Some at) = count >>= λ n. cells_from (n - at) at at s

-- the bits of a result: those of an integer; or those that choose a pointer, and the cells of its object
abbrev pub result_bits : Source → Site → (pointer_bits : ℕ) → Option ℕ → Laying (Unit {0})
result_bits s x pointer_bits object =
    if is_integer x.result
    then (take_bits (int_bits s.widths x.result) >>= λ _. done tt)
    else (if is_pointer x.result then (take_bits pointer_bits >>= λ _. object_cells s object) else done tt)

-- What the choice says of a known call's items: of each location whether its operation errs, and its state
-- afterwards; of each parameter what becomes of its object; of each pointer that a parameter points to what becomes
-- of it, and the object that it then points to; of each other written cell its value.

abbrev pub push_spot : ℕ → Option ℕ → Laying (Unit {0})
push_spot bit object p = Ok (tt, record p { spots = p.spots ++ record { bit = bit; object = object } ∷ [] })

abbrev pub spots_now : Laying ℕ
spots_now p = Ok (length p.spots, p)

abbrev pub spot_of : ℕ → Laying (Unit {0})
spot_of bits = take_bits bits >>= λ b. push_spot b None

abbrev pub state_spot : Source → Item → Laying (Unit {0})
state_spot s (item.Lock p) = spot_of (1 + state_bits s)
state_spot s _ = done tt

abbrev pub state_spots : Source → List ItemRows → Laying (Unit {0})
state_spots s [] = done tt
state_spots s (x ∷ xs) = state_spot s x.item >>= λ _. state_spots s xs

abbrev pub param_spot : Item → Laying (Unit {0})
param_spot (item.Param n) = spot_of 2
param_spot _ = done tt

abbrev pub param_spots : List ItemRows → Laying (Unit {0})
param_spots [] = done tt
param_spots (x ∷ xs) = param_spot x.item >>= λ _. param_spots xs

abbrev pub param_type : Signature → ℕ → Ty
param_type f n = slice_index_or f.params n Void

-- the object that a pointer to a pointer of that type may be made to point to
abbrev pub out_object : Ground → Signature → (param occurrence : ℕ) → Laying ℕ
out_object g f n k = do
  at ← whole g Cells (target_or_void (target_or_void (param_type f n))) (origin.Call k)
  end ← count
  _ ← follow_range at end g Stub
  done at

abbrev pub out_spot : Ground → Signature → ℕ → Item → Laying (Unit {0})
out_spot g f k (item.Out n) = do
  b ← take_bits 2
  at ← out_object g f n k
  push_spot b (Some at)
out_spot g f k _ = done tt

abbrev pub out_spots : Ground → Signature → ℕ → List ItemRows → Laying (Unit {0})
out_spots g f k [] = done tt
out_spots g f k (x ∷ xs) = out_spot g f k x.item >>= λ _. out_spots g f k xs

abbrev pub is_out : ℕ → Item → Bool
is_out n (item.Out m) = nat_eq n m
is_out n _ = false

abbrev pub is_target_of : Root → List Step → List ItemRows → Bool
is_target_of (root.Param n) (step.Deref ∷ []) items = list_any (λ x. is_out n x.item) items
is_target_of _ _ items = false

-- whether a path leads to what a parameter with such an item points to
abbrev pub is_out_path : List ItemRows → Path → Bool
is_out_path items p = is_target_of p.root p.steps items

abbrev pub pointer_spot : ℕ → Laying (Unit {0})
pointer_spot k = do
  at ← stub (origin.Call k)
  b ← take_bits 1
  push_spot b (Some at)

abbrev pub write_spot : List ItemRows → ℕ → Write → Laying (Unit {0})
write_spot items k x =
    if is_out_path items x.path
    then done tt
    else (if nat_eq x.width 0 then pointer_spot k else spot_of x.width)

abbrev pub write_spots : List ItemRows → ℕ → List Write → Laying (Unit {0})
write_spots items k [] = done tt
write_spots items k (x ∷ xs) = write_spot items k x >>= λ _. write_spots items k xs

abbrev pub known_spots : Ground → ℕ → Signature → Option Summary → Laying (Unit {0})
known_spots g k f None = done tt
known_spots g k f (Some sum) = do
  _ ← state_spots g.source sum.items
  _ ← param_spots sum.items
  _ ← out_spots g f k sum.items
  write_spots sum.items k sum.writes

abbrev pub known_callee : Source → ℕ → Signature
known_callee s k = signature_at s (slice_index_or s.kept k 0)

-- the bits of a call
abbrev pub effect_bits : Ground → ℕ → Site → Option ℕ → Effect → Laying (Unit {0})
effect_bits g k x object (Try a b) = take_bits 1 >>= λ _. done tt
effect_bits g k x object (Allocate true) = take_bits 1 >>= λ _. done tt
effect_bits g k x object (Allocate false) = take_bits 1 >>= λ _. object_cells g.source object
effect_bits g k x object Unknown = result_bits g.source x 1 object
effect_bits g k x object (Known n) = do
  _ ← result_bits g.source x 2 object
  known_spots g k (known_callee g.source n) (sum_at g.source n)
effect_bits g k x object _ = done tt

abbrev pub call_bits : Ground → ℕ → Site → Occurrence → Laying (Unit {0})
call_bits g k x o = effect_bits g k x o.object x.effect

abbrev pub occurrence_now : ℕ → Laying Occurrence
occurrence_now k p = Ok (slice_index_or p.occurrences k no_occurrence, p)

abbrev pub put_occurrence : ℕ → Occurrence → Laying (Unit {0})
put_occurrence k o p = Ok (tt, record p { occurrences = slice_set p.occurrences k o })

abbrev pub number_site : Ground → ℕ → Site → Laying (Unit {0})
number_site g k x = do
  o ← occurrence_now k
  b ← take_bits 0
  n ← spots_now
  _ ← call_bits g k x o
  put_occurrence k (record o { bit = b; spot = n })

abbrev pub number_turns : (turns : ℕ) → Ground → ℕ → Site → Laying (Unit {0})
number_turns zero g k x = done tt
number_turns (suc more) g k x = do
  _ ← number_site g k x
  number_turns more g (k + 1) x

-- the bits of all occurrences, from number k on
abbrev pub number_all : ℕ → List Site → Ground → Laying (Unit {0})
number_all k [] g = done tt
number_all k (x ∷ xs) g = do
  _ ← number_turns x.turns g k x
  number_all (k + x.turns) xs g
