-- Nodes that make a step and keep the cells that it gives in a slot: what is asked of the gates of the step.
use Rattle.std.specs.Prelude.{◌≡◌, ℕ, ◌+◌, ◌<◌, ◌≤◌, nat_eq, Bool, true, false, Some, List, [], ◌∷◌, length, slice_get, if◌then◌else◌}
use Rattle.bit_net.specs.declared.nodes.Node.{Node as Gates}
use Rattle.bit_net.specs.Runs.{Runs, Grown}
use Rattle.gl_store.specs.declared.stores.Location.{Location}
use Rattle.gl_store.specs.Meets.{kinds as cell_kinds}
use Rattle.gate_runs.specs.declared.ends.Ends.{Ends}
use Rattle.gate_runs.specs.Stands.{AreEnds, Does, HasBegun}
use Rattle.run_store.specs.Concrete.{Cell}
use Rattle.sc_world.specs.Source.{Source}
use Rattle.sc_world.specs.Layout.{Layout}
use Rattle.sc_world.specs.World.{World, Run, ◌>>=◌, bit_at}
use Rattle.gate_copies.specs.declared.readings.Reading.{Reading}
use Rattle.gate_copies.specs.Readings.{readings_top}
use Rattle.gate_inits.specs.Inits.{HaveCells}
use Rattle.flow_graph.specs.Nodes.{Node, Kept, act, keep_cells}
use Rattle.flow_graph.specs.Conditions.{InSlot, kept_by, onward}
use Rattle.flow_graph.specs.Laws.{GoesOn, IsBehind}
use Rattle.flow_types.specs.Kinds as flow
use Rattle.flow_stages.specs.Stage.{unread}
use Rattle.flow_turns.specs.declared.before.Before.{Before}
use Rattle.flow_turns.specs.declared.before.Arrival.{Arrival}
use Rattle.flow_turns.specs.declared.temps.Slot.{Slot}
use Rattle.flow_turns.specs.Kept.{HaveKept, HaveSome, cells_at, is_filled}
use Rattle.flow_turns.specs.Before.{IsAt, IsBefore}
use Rattle.flow_turns.specs.Steps.{WroteStore}
use Rattle.flow_fills.specs.declared.slots.Given.{Given}

-- the cells that a slot has behind a node that keeps others there
abbrev pub cells_after : (was on : Bool) → (old new : List Cell) → List Cell
cells_after was on old new = if was then (if on then new else old) else new

-- Cells are kept in slot m where a gate holds; where it was not kept before, they are kept everywhere.
pub record KeepsIn (ns : List Gates) (when m : ℕ) (cells : List Reading) (old new : List Slot) : Type 0 where
  pub many : length new ≡ length old
  pub filled : (j : ℕ) → is_filled new j ≡ (if nat_eq m j then true else is_filled old j)
  pub others : (j : ℕ) → nat_eq m j ≡ false → cells_at new j ≡ cells_at old j
  pub has : (choice v : ℕ → Bool) → Runs ns choice v → (cs ds : List Cell) → HaveCells v (cells_at old m) cs → HaveCells v cells ds
      → HaveCells v (cells_at new m) (cells_after (is_filled old m) (v when) cs ds)

-- gates of the net
pub record AreGiven (ns : List Gates) (locations : ℕ) (given : Given) : Type 0 where
  pub on : given.on.at < length ns
  pub ends : AreEnds ns given.ends
  pub cells : readings_top given.cells.items ≤ length ns
  pub each : length given.ends.bads.items ≡ locations

-- For one choice the gates do the node's step, from where it began: over what was kept in a run, and over whatever temps and slots have.
pub record DoesGiving (s : Source) (p : Layout) (kinds : List flow.Kind) (nodes : List Node) (bits : List Bool) (node : ℕ) (n : Node) (slot next : ℕ) (ns : List Gates) (v : ℕ → Bool) (here : Arrival) (old : Before) (stored : List Location) (given : Given) : Type 0 where
  pub m : Kept → Run (List Cell)
  pub acts : (go : ℕ → Kept → Run Cell) (k : Kept) (w : World) → act s p bits n go k w ≡ (m k >>= λ cs. go next (keep_cells slot cs k)) w
  pub begun : Ends
  pub began : HasBegun ns given.on.at begun
  pub narrow : v here.gate.at ≡ false → v given.on.at ≡ false
  pub wide : (k : Kept) → HaveKept v p kinds old.temps k (unread nodes node node) → v here.gate.at ≡ true → v given.on.at ≡ true
  pub does : (k : Kept) → HaveKept v p kinds old.temps k (unread nodes node node)
      → Does v old.store.locations.items begun (m k) stored given.ends (HaveCells v given.cells.items)
  pub some : (k : Kept) → HaveSome v p kinds old.temps k → Does v old.store.locations.items begun (m k) stored given.ends (HaveCells v given.cells.items)

-- For every choice they do, and the step wrote the store alone.
pub record DoesGivings (s : Source) (p : Layout) (kinds : List flow.Kind) (nodes : List Node) (node : ℕ) (ns : List Gates) (n : Node) (slot next : ℕ) (here : Arrival) (old : Before) (stored : List Location) (given : Given) : Type 0 where
  pub same : cell_kinds stored ≡ cell_kinds old.store.locations.items
  pub keeps : kept_by n ≡ InSlot slot ∷ []
  pub on_to : (is_so : ℕ → Bool) → onward n is_so ≡ is_so next
  pub later : (at count : ℕ) → GoesOn at count n → IsBehind at count next
  pub does : (bits : List Bool) → length bits ≤ p.bits → (v : ℕ → Bool) → Runs ns (bit_at bits) v
      → DoesGiving s p kinds nodes bits node n slot next ns v here old stored given

-- Behind a step that wrote the store the gates go past the node, of whatever graph and with whatever number.
pub record SettlesIn (ns new_ns : List Gates) (slot next : ℕ) (here : Arrival) (given : Given) (mid new : Before) : Type 0 where
  pub past : (s : Source) (p : Layout) (nodes : List Node) (node : ℕ) (n : Node) → slice_get nodes node ≡ Some n
      → (old_ns : List Gates) → Grown old_ns ns → (old : Before) → WroteStore old mid → (h : IsAt s p nodes node old_ns old here)
      → DoesGivings s p h.kinds.temps nodes node ns n slot next here old mid.store.locations.items given
      → IsBefore s p nodes (node + 1) new_ns new
