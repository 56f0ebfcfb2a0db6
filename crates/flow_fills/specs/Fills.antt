-- Nodes that keep the cells of values, behind the evaluation of their expressions, and nodes that set the parts of locals to kept cells.
-- `old` is what stood before the evaluation, which wrote the store alone.
use Rattle.std.specs.Prelude.{◌≡◌, ℕ, ◌+◌, ◌≤◌, Bool, Option, Some, None, List, map, length, slice_get}
use Rattle.bit_net.specs.declared.nodes.Node.{Node as Gates}
use Rattle.bit_net.specs.Runs.{Runs, Grown}
use Rattle.gl_store.specs.declared.stores.Location.{Location}
use Rattle.gl_store.specs.Meets.{kinds, locations_top}
use Rattle.gate_runs.specs.declared.ends.Ends.{Ends}
use Rattle.gate_runs.specs.Stands.{Does, Any}
use Rattle.run_store.specs.Concrete.{Cell}
use Rattle.run_laws.specs.Fits.{if_scalar}
use Rattle.sc_typed.specs.declared.stmt.TInitItem.{TInitItem}
use Rattle.sc_world.specs.declared.run.Origin.TheVariants as origin
use Rattle.sc_world.specs.Tree.{Ty, Given, type_of, Exp}
use Rattle.sc_world.specs.Source.{Source}
use Rattle.sc_world.specs.Layout.{Layout, location_of}
use Rattle.sc_world.specs.World.{Env, Run, done}
use Rattle.sc_world.specs.Exec.{part_at, set_part, set_parts}
use Rattle.sc_world.specs.View.{given}
use Rattle.gate_places.specs.Places.{env_of}
use Rattle.gate_inits.specs.Inits.{HaveCells}
use Rattle.flow_graph.specs.Nodes.{Node, KeepCells, Fill}
use Rattle.flow_graph.specs.Growing.{numbers}
use Rattle.flow_graph.specs.Conditions.{temps_of}
use Rattle.flow_turns.specs.declared.before.Before.{Before}
use Rattle.flow_turns.specs.declared.before.Arrival.{Arrival}
use Rattle.flow_turns.specs.declared.steps.Made.{Made}
use Rattle.flow_turns.specs.declared.temps.Slot.{Slot}
use Rattle.flow_turns.specs.Kept.{cells_at}
use Rattle.flow_turns.specs.Before.{IsAt, IsBefore}
use Rattle.flow_turns.specs.Steps.{WroteStore}
use Rattle.flow_keeps.specs.Evaluates.{Evaluates}
use Rattle.flow_keeps.specs.Keeps.{BeginsAt}

-- The cells of the value of an expression of that type are kept in a slot.
pub record KeepsCells (s : Source) (p : Layout) (ns new_ns : List Gates) (t : Ty) (slot next : ℕ) (here : Arrival) (made : Made) (mid new : Before) : Type 0 where
  pub past : (nodes : List Node) (node : ℕ) (e : Exp) → slice_get nodes node ≡ Some (KeepCells slot e next) → type_of e ≡ t
      → (old_ns : List Gates) → Grown old_ns ns → (old : Before) → WroteStore old mid → IsAt s p nodes node old_ns old here
      → BeginsAt ns here old (temps_of e) made.on.at
      → Evaluates s p old.temps ns (if_scalar (type_of e)) e old.store.locations.items mid.store.locations.items made
      → IsBefore s p nodes (node + 1) new_ns new

-- Kept cells are set in the parts of a local, for each value in braces those of a slot.

-- the part that a value in braces sets, if there is one, is set
abbrev pub part_set : Env → (object : ℕ) → Option Given → List Cell → Run (Unit {0})
part_set env at None c = done tt
part_set env at (Some x) c = set_part env (part_at env at x.way) c

-- the values in braces
abbrev pub givens_of : Source → List TInitItem → List Given
givens_of s xs = map (given s.structs) xs

-- the slots, from the first one on, have these cells
abbrev pub HaveSlots : (v : ℕ → Bool) → List Slot → (first count : ℕ) → List (List Cell) → Type 0
HaveSlots v slots first count cs =
    (length cs ≡ count) × ((i : ℕ) (c : List Cell) → slice_get cs i ≡ Some c → HaveCells v (cells_at slots (first + i)) c)

-- the value in braces with that number is set
pub record SetsPart (s : Source) (p : Layout) (ns : List Gates) (gates : Ends) (object : ℕ) (items : List TInitItem) (slots : List Slot) (slot number : ℕ) (old new : List Location) : Type 0 where
  pub top : locations_top new ≤ length ns
  pub same : kinds new ≡ kinds old
  pub does : (choice v : ℕ → Bool) → Runs ns choice v → (bits : List Bool) (temps : List Cell) (turn : ℕ) (c : List Cell) → HaveCells v (cells_at slots slot) c
      → Does v old gates (part_set (env_of s p bits temps turn) object (slice_get (givens_of s items) number) c) new gates Any

-- all of them are set
pub record SetsParts (s : Source) (p : Layout) (ns : List Gates) (gates : Ends) (object : ℕ) (items : List TInitItem) (slots : List Slot) (first count : ℕ) (old new : List Location) : Type 0 where
  pub top : locations_top new ≤ length ns
  pub same : kinds new ≡ kinds old
  pub does : (choice v : ℕ → Bool) → Runs ns choice v → (bits : List Bool) (temps : List Cell) (turn : ℕ) (cs : List (List Cell)) → HaveSlots v slots first count cs
      → Does v old gates (set_parts (env_of s p bits temps turn) object (givens_of s items) cs) new gates Any

-- The parts of a local at that location are set, and the rest to 0 or null.
pub record Fills (s : Source) (p : Layout) (ns new_ns : List Gates) (location : ℕ) (items : List TInitItem) (first count next : ℕ) (here : Arrival) (old new : Before) : Type 0 where
  pub past : (nodes : List Node) (node m : ℕ) → slice_get nodes node ≡ Some (Fill m (givens_of s items) (numbers first count) next)
      → location_of p (origin.Local m) ≡ location → IsAt s p nodes node ns old here
      → IsBefore s p nodes (node + 1) new_ns new
