-- What temps and slots have, for the values v of the gates.
use Rattle.std.specs.Prelude.{◌≡◌, ℕ, zero, suc, ◌≤◌, max, Bool, true, false, if◌then◌else◌, Option, Some, List, [], ◌∷◌, length, slice_get, slice_index_or}
use Rattle.bit_net.specs.declared.nodes.Node.{Node}
use Rattle.gl_store.specs.declared.values.Val.{Val}
use Rattle.gl_store.specs.declared.values.Val.TheVariants as val
use Rattle.gl_store.specs.Meets.{Meets, val_kind, val_top}
use Rattle.gate_runs.specs.Stands.{told, gates_top}
use Rattle.gate_inits.specs.Inits.{Reading, readings_top}
use Rattle.gate_inits.specs.Inits.{HaveCells}
use Rattle.run_store.specs.Concrete.{Kind, Pointers}
use Rattle.run_laws.specs.Fits.{is_scalar, IsPlaceOf}
use Rattle.sc_world.specs.Tree.{Ty, is_void}
use Rattle.sc_world.specs.Source.{Source}
use Rattle.sc_world.specs.Layout.{Layout}
use Rattle.sc_world.specs.World.{kind_of_type}
use Rattle.flow_graph.specs.Nodes.{Kept, temp, slot}
use Rattle.flow_graph.specs.Conditions.{Held, InTemp, InSlot}
use Rattle.flow_types.specs.Kinds as flow
use Rattle.flow_turns.specs.declared.temps.Slot.{Slot}
use Rattle.flow_turns.specs.declared.temps.Temps.{Temps}

-- the value of a temp, and whether some node has kept it
abbrev pub val_at : Temps → ℕ → Val
val_at t m = slice_index_or t.vals.items m val.Unit

abbrev pub is_kept : Temps → ℕ → Bool
is_kept t m = slice_index_or t.kept.items m false

-- the cells of a slot, and whether some node has kept them
abbrev pub cells_at : List Slot → ℕ → List Reading
cells_at [] m = []
cells_at (x ∷ xs) zero = x.cells.items
cells_at (x ∷ xs) (suc m) = cells_at xs m

abbrev pub is_filled : List Slot → ℕ → Bool
is_filled [] m = false
is_filled (x ∷ xs) zero = x.kept
is_filled (x ∷ xs) (suc m) = is_filled xs m

-- one more than the greatest gate of the values, and of the slots
unfoldable pub vals_top : List Val → ℕ
vals_top [] = 0
vals_top (x ∷ xs) = max (val_top x) (vals_top xs)

unfoldable pub slots_top : List Slot → ℕ
slots_top [] = 0
slots_top (x ∷ xs) = max (readings_top x.cells.items) (slots_top xs)

-- What was kept in a run.

-- the gates of a temp have what was kept; a place leads to an object of its type
pub record HasKept (v : ℕ → Bool) (p : Layout) (kinds : List flow.Kind) (t : Temps) (k : Kept) (m : ℕ) : Type 0 where
  pub kept : is_kept t m ≡ true
  pub meets : Meets v (val_at t m) (temp k m)
  pub sure : told v t.sure.items m ≡ true
  pub place : (u : Ty) → slice_get kinds m ≡ Some (flow.PlaceOf u) → IsPlaceOf p u (temp k m)

pub record HasCells (v : ℕ → Bool) (t : Temps) (k : Kept) (m : ℕ) : Type 0 where
  pub kept : is_filled t.slots.items m ≡ true
  pub meets : HaveCells v (cells_at t.slots.items m) (slot k m)

-- whether a temp is for values of type `void`
abbrev pub is_for_void : Option flow.Kind → Bool
is_for_void (Some (flow.ValueOf t)) = is_void t
is_for_void _ = false

-- The kind of the gates of a temp: numbers of a width, or pointers to places. An object has a pointer for its value.
abbrev pub kind_for : Source → flow.Kind → Kind
kind_for s (flow.ValueOf t) = if is_scalar t then kind_of_type s (Some t) else Pointers
kind_for s (flow.PlaceOf t) = Pointers

-- of a value of type `void` nothing is said
abbrev pub HasKind : Source → flow.Kind → Val → Type 0
HasKind s k x = is_for_void (Some k) ≡ false → val_kind x ≡ kind_for s k

-- so it is of all temps and slots that are still read, but for temps of values of type `void`
pub record HaveKept (v : ℕ → Bool) (p : Layout) (kinds : List flow.Kind) (t : Temps) (k : Kept) (unread : Held → Bool) : Type 0 where
  pub temps : (m : ℕ) → unread (InTemp m) ≡ false → is_for_void (slice_get kinds m) ≡ false → HasKept v p kinds t k m
  pub slots : (m : ℕ) → unread (InSlot m) ≡ false → HasCells v t k m

-- The gates of all temps and slots have what is kept here, also where no run reads them. A place leads to an object where its gate says so.
pub record HaveSome (v : ℕ → Bool) (p : Layout) (kinds : List flow.Kind) (t : Temps) (k : Kept) : Type 0 where
  pub meets : (m : ℕ) → Meets v (val_at t m) (temp k m)
  pub place : (m : ℕ) (u : Ty) → slice_get kinds m ≡ Some (flow.PlaceOf u) → told v t.sure.items m ≡ true → IsPlaceOf p u (temp k m)
  pub cells : (m : ℕ) → HaveCells v (cells_at t.slots.items m) (slot k m)

-- Gates of temps.

-- gates of the net, of each sort as many as there are temps
pub record AreTemps (ns : List Node) (t : Temps) : Type 0 where
  pub vals : vals_top t.vals.items ≤ length ns
  pub sure : gates_top t.sure.items ≤ length ns
  pub slots : slots_top t.slots.items ≤ length ns
  pub each_sure : length t.sure.items ≡ length t.vals.items
  pub each_kept : length t.kept.items ≡ length t.vals.items

-- there are so many, and those that were kept are of their kinds
pub record HaveKinds (s : Source) (kinds : flow.Kinds) (t : Temps) : Type 0 where
  pub count : length t.vals.items ≡ length kinds.temps
  pub slots : length t.slots.items ≡ length kinds.slots
  pub each : (m : ℕ) (k : flow.Kind) → slice_get kinds.temps m ≡ Some k → is_kept t m ≡ true → HasKind s k (val_at t m)
