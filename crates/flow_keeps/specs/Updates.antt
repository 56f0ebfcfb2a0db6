-- Nodes that set a kept place to what an operator makes of two kept values.
use Rattle.std.specs.Prelude.{◌≡◌, ℕ, ◌+◌, ◌≤◌, Bool, Some, List, [], ◌∷◌, length, slice_get}
use Rattle.bit_net.specs.declared.nodes.Node.{Node as Gates}
use Rattle.bit_net.specs.Runs.{Runs, Grown}
use Rattle.gl_store.specs.declared.stores.Location.{Location}
use Rattle.gl_store.specs.Meets.{Meets, kinds}
use Rattle.gate_runs.specs.declared.ends.Ends.{Ends}
use Rattle.gate_runs.specs.Stands.{Does, HasBegun}
use Rattle.run_store.specs.Concrete.{Cell}
use Rattle.sc_world.specs.Source.{Source}
use Rattle.sc_world.specs.Layout.{Layout}
use Rattle.sc_world.specs.World.{bit_at}
use Rattle.sc_world.specs.Eval.{Want}
use Rattle.flow_graph.specs.Nodes.{Node, Updating, Update, updated}
use Rattle.flow_types.specs.Kinds as flow
use Rattle.flow_turns.specs.declared.before.Before.{Before}
use Rattle.flow_turns.specs.declared.before.Arrival.{Arrival}
use Rattle.flow_turns.specs.declared.steps.Made.{Made}
use Rattle.flow_turns.specs.declared.temps.Temps.{Temps}
use Rattle.flow_turns.specs.Kept.{HasKind, val_at}
use Rattle.flow_turns.specs.Before.{IsAt, IsBefore}
use Rattle.flow_turns.specs.Steps.{WroteStore}
use Rattle.flow_keeps.specs.Evaluates.{IsReadAs, IsUsable, IsWanted, kind_of}
use Rattle.flow_keeps.specs.Keeps.{BeginsAt}

-- The gates do what the assignment does, of whatever place and values, for each choice without bits beyond those of the layout.
pub record Updates (s : Source) (p : Layout) (t : Temps) (ns : List Gates) (u : Updating) (want : Want) (at old right : ℕ) (before after : List Location) (made : Made) : Type 0 where
  pub begun : Ends
  pub began : HasBegun ns made.on.at begun
  pub kind : HasKind s (kind_of want u.ctype) made.val
  pub same : kinds after ≡ kinds before
  pub usable : (choice v : ℕ → Bool) → Runs ns choice v → IsUsable want v made.ends.live.at made.sure.at
  pub does : (bits : List Bool) → length bits ≤ p.bits → (v : ℕ → Bool) → Runs ns (bit_at bits) v → (q x y : Cell)
      → IsReadAs v (v begun.live.at) p (flow.PlaceOf u.ctype) (val_at t at) q → Meets v (val_at t old) x → Meets v (val_at t right) y
      → Does v before begun (updated s p bits u want q x y) after made.ends (IsWanted v made.ends.live.at p (kind_of want u.ctype) made.val)

-- Behind the assignment the gates go past the node, of whatever function and with whatever number; it began where the walk is at the node
-- and the place may be used. `old` is what stood before it, and it wrote the store alone.
pub record KeepsUpdate (ns new_ns : List Gates) (temp next : ℕ) (here : Arrival) (made : Made) (mid new : Before) : Type 0 where
  pub past : (s : Source) (p : Layout) (nodes : List Node) (node : ℕ) (u : Updating) (want : Want) (at former right : ℕ)
      → slice_get nodes node ≡ Some (Update u want at former right temp next)
      → (old_ns : List Gates) → Grown old_ns ns → (old : Before) → WroteStore old mid → IsAt s p nodes node old_ns old here
      → BeginsAt ns here old (at ∷ []) made.on.at
      → Updates s p old.temps ns u want at former right old.store.locations.items mid.store.locations.items made
      → IsBefore s p nodes (node + 1) new_ns new
