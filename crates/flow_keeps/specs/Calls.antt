-- Nodes that make a call with kept arguments.
use Rattle.std.specs.Prelude.{◌≡◌, ℕ, ◌+◌, ◌≤◌, Bool, true, Some, List, [], ◌∷◌, length, slice_get}
use Rattle.bit_net.specs.declared.nodes.Node.{Node as Gates}
use Rattle.bit_net.specs.Runs.{Runs, Grown}
use Rattle.gl_store.specs.declared.stores.Location.{Location}
use Rattle.gl_store.specs.Meets.{Meets, kinds}
use Rattle.gate_runs.specs.declared.ends.Ends.{Ends}
use Rattle.gate_runs.specs.Stands.{Does, HasBegun}
use Rattle.run_store.specs.Concrete.{Cell}
use Rattle.sc_world.specs.Source.{Source}
use Rattle.sc_world.specs.Layout.{Layout}
use Rattle.sc_world.specs.World.{bit_at}
use Rattle.flow_graph.specs.Nodes.{Node, Calling, CallOf, call_of}
use Rattle.flow_types.specs.Kinds as flow
use Rattle.flow_turns.specs.declared.before.Before.{Before}
use Rattle.flow_turns.specs.declared.before.Arrival.{Arrival}
use Rattle.flow_turns.specs.declared.steps.Made.{Made}
use Rattle.flow_turns.specs.declared.temps.Temps.{Temps}
use Rattle.flow_turns.specs.Kept.{HasKind, val_at}
use Rattle.flow_turns.specs.Before.{IsAt, IsBefore}
use Rattle.flow_turns.specs.Steps.{WroteStore}

-- the gates of the temps have these cells, one after another
abbrev pub MeetEach : (v : ℕ → Bool) → Temps → List ℕ → List Cell → Type 0
MeetEach v t [] [] = Unit {0}
MeetEach v t (m ∷ ms) (c ∷ cs) = Meets v (val_at t m) c × MeetEach v t ms cs
MeetEach v t _ _ = ⊥

-- The gates do what the call does, of whatever arguments, for each choice without bits beyond those of the layout.
pub record Calls (s : Source) (p : Layout) (t : Temps) (ns : List Gates) (c : Calling) (args : List ℕ) (old new : List Location) (made : Made) : Type 0 where
  pub begun : Ends
  pub began : HasBegun ns made.on.at begun
  pub kind : HasKind s (flow.ValueOf c.result) made.val
  pub same : kinds new ≡ kinds old
  pub usable : (choice v : ℕ → Bool) → Runs ns choice v → v made.sure.at ≡ true
  pub does : (bits : List Bool) → length bits ≤ p.bits → (v : ℕ → Bool) → Runs ns (bit_at bits) v → (cells : List Cell) → MeetEach v t args cells
      → Does v old begun (call_of s p bits c cells) new made.ends (Meets v made.val)

-- Behind the call the gates go past the node, of whatever function and with whatever number; it began where the walk is at the node.
-- `old` is what stood before the call, which wrote the store alone.
pub record KeepsCall (ns new_ns : List Gates) (temp next : ℕ) (here : Arrival) (made : Made) (mid new : Before) : Type 0 where
  pub past : (s : Source) (p : Layout) (nodes : List Node) (node : ℕ) (c : Calling) (args : List ℕ) → slice_get nodes node ≡ Some (CallOf c args temp next)
      → (old_ns : List Gates) → Grown old_ns ns → (old : Before) → WroteStore old mid → IsAt s p nodes node old_ns old here → made.on ≡ here.gate
      → Calls s p old.temps ns c args old.store.locations.items mid.store.locations.items made
      → IsBefore s p nodes (node + 1) new_ns new
