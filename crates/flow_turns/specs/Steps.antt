-- Nodes that make a step and keep what it gives: what is asked of the gates of the step.
use Rattle.std.specs.Prelude.{◌≡◌, ℕ, ◌+◌, ◌<◌, ◌≤◌, Bool, true, false, Some, List, [], ◌∷◌, length, slice_get}
use Rattle.bit_net.specs.declared.nodes.Node.{Node as Gates}
use Rattle.bit_net.specs.Runs.{Runs, Grown}
use Rattle.gl_store.specs.declared.stores.Location.{Location}
use Rattle.gl_store.specs.Meets.{Meets, kinds as cell_kinds, val_top}
use Rattle.gate_runs.specs.declared.ends.Ends.{Ends}
use Rattle.gate_runs.specs.Stands.{AreEnds, Any, Does, HasBegun}
use Rattle.run_store.specs.Concrete.{Cell}
use Rattle.run_laws.specs.Fits.{IsPlaceOf}
use Rattle.sc_world.specs.Tree.{Ty}
use Rattle.sc_world.specs.Source.{Source}
use Rattle.sc_world.specs.Layout.{Layout}
use Rattle.sc_world.specs.World.{World, Run, ◌>>=◌, bit_at}
use Rattle.flow_graph.specs.Nodes.{Node, Kept, act, keep}
use Rattle.flow_graph.specs.Conditions.{InTemp, kept_by, onward}
use Rattle.flow_graph.specs.Laws.{GoesOn, IsBehind}
use Rattle.flow_types.specs.Kinds as flow
use Rattle.flow_stages.specs.Stage.{unread}
use Rattle.flow_turns.specs.declared.before.Before.{Before}
use Rattle.flow_turns.specs.declared.before.Arrival.{Arrival}
use Rattle.flow_turns.specs.declared.steps.Made.{Made}
use Rattle.flow_turns.specs.Kept.{HasKind, HaveKept, HaveSome}
use Rattle.flow_turns.specs.Before.{IsAt, IsBefore}

-- gates of the net
pub record IsMade (ns : List Gates) (locations : ℕ) (made : Made) : Type 0 where
  pub on : made.on.at < length ns
  pub ends : AreEnds ns made.ends
  pub val : val_top made.val ≤ length ns
  pub sure : made.sure.at < length ns
  pub each : length made.ends.bads.items ≡ locations

-- The value has what the step gave. Where it goes on it is sure, and a place that is sure leads to an object of its type.
pub record IsGood (v : ℕ → Bool) (p : Layout) (kinds : List flow.Kind) (temp : ℕ) (made : Made) (c : Cell) : Type 0 where
  pub meets : Meets v made.val c
  pub sure : v made.ends.live.at ≡ true → v made.sure.at ≡ true
  pub place : (u : Ty) → slice_get kinds temp ≡ Some (flow.PlaceOf u) → v made.sure.at ≡ true → IsPlaceOf p u c

-- For one choice the gates do the node's step, from where it began: over what was kept in a run, and over whatever temps have.
pub record DoesNode (s : Source) (p : Layout) (kinds : List flow.Kind) (nodes : List Node) (bits : List Bool) (node : ℕ) (n : Node) (temp next : ℕ) (ns : List Gates) (v : ℕ → Bool) (here : Arrival) (old : Before) (stored : List Location) (made : Made) : Type 0 where
  pub m : Kept → Run Cell
  pub acts : (go : ℕ → Kept → Run Cell) (k : Kept) (w : World) → act s p bits n go k w ≡ (m k >>= λ c. go next (keep temp c k)) w
  pub begun : Ends
  pub began : HasBegun ns made.on.at begun
  pub narrow : v here.gate.at ≡ false → v made.on.at ≡ false
  pub wide : (k : Kept) → HaveKept v p kinds old.temps k (unread nodes node node) → v here.gate.at ≡ true → v made.on.at ≡ true
  pub does : (k : Kept) → HaveKept v p kinds old.temps k (unread nodes node node)
      → Does v old.store.locations.items begun (m k) stored made.ends (IsGood v p kinds temp made)
  pub some : (k : Kept) → HaveSome v p kinds old.temps k → Does v old.store.locations.items begun (m k) stored made.ends (IsGood v p kinds temp made)

-- For every choice they do; the step wrote the store alone, and its value has the kind of the temp.
pub record DoesStep (s : Source) (p : Layout) (kinds : List flow.Kind) (nodes : List Node) (node : ℕ) (ns : List Gates) (n : Node) (temp next : ℕ) (here : Arrival) (old : Before) (stored : List Location) (made : Made) : Type 0 where
  pub same : cell_kinds stored ≡ cell_kinds old.store.locations.items
  pub keeps : kept_by n ≡ InTemp temp ∷ []
  pub on : (is_so : ℕ → Bool) → onward n is_so ≡ is_so next
  pub kind : (k : flow.Kind) → slice_get kinds temp ≡ Some k → HasKind s k made.val
  pub later : (at count : ℕ) → GoesOn at count n → IsBehind at count next
  pub does : (bits : List Bool) → length bits ≤ p.bits → (v : ℕ → Bool) → Runs ns (bit_at bits) v
      → DoesNode s p kinds nodes bits node n temp next ns v here old stored made

-- The state is the one before the step, but for the store.
pub record WroteStore (old new : Before) : Type 0 where
  pub temps : new.temps ≡ old.temps
  pub ways : new.ways ≡ old.ways
  pub fates : new.fates ≡ old.fates
  pub result : new.result ≡ old.result
  pub blank : new.blank ≡ old.blank

-- Behind a step that wrote the store the gates go past the node, of whatever graph and with whatever number.
pub record Settles (ns new_ns : List Gates) (temp next : ℕ) (here : Arrival) (made : Made) (mid new : Before) : Type 0 where
  pub past : (s : Source) (p : Layout) (nodes : List Node) (node : ℕ) (n : Node) → slice_get nodes node ≡ Some n
      → (old_ns : List Gates) → Grown old_ns ns → (old : Before) → WroteStore old mid → (h : IsAt s p nodes node old_ns old here)
      → DoesStep s p h.kinds.temps nodes node ns n temp next here old mid.store.locations.items made
      → IsBefore s p nodes (node + 1) new_ns new

-- Nodes that make a step and keep nothing.

-- For one choice the gates do the node's step.
pub record DoesAct (s : Source) (p : Layout) (kinds : List flow.Kind) (nodes : List Node) (bits : List Bool) (node : ℕ) (n : Node) (next : ℕ) (ns : List Gates) (v : ℕ → Bool) (here : Arrival) (old : Before) (stored : List Location) (on : ℕ) (ends : Ends) : Type 0 where
  pub m : Kept → Run (Unit {0})
  pub acts : (go : ℕ → Kept → Run Cell) (k : Kept) (w : World) → act s p bits n go k w ≡ (m k >>= λ u. go next k) w
  pub begun : Ends
  pub began : HasBegun ns on begun
  pub narrow : v here.gate.at ≡ false → v on ≡ false
  pub wide : (k : Kept) → HaveKept v p kinds old.temps k (unread nodes node node) → v here.gate.at ≡ true → v on ≡ true
  pub does : (k : Kept) → HaveKept v p kinds old.temps k (unread nodes node node) → Does v old.store.locations.items begun (m k) stored ends Any
  pub some : (k : Kept) → HaveSome v p kinds old.temps k → Does v old.store.locations.items begun (m k) stored ends Any

-- For every choice they do, and the step wrote the store alone.
pub record DoesActs (s : Source) (p : Layout) (kinds : List flow.Kind) (nodes : List Node) (node : ℕ) (ns : List Gates) (n : Node) (next : ℕ) (here : Arrival) (old : Before) (stored : List Location) (on : ℕ) (ends : Ends) : Type 0 where
  pub same : cell_kinds stored ≡ cell_kinds old.store.locations.items
  pub keeps : kept_by n ≡ []
  pub on_to : (is_so : ℕ → Bool) → onward n is_so ≡ is_so next
  pub later : (at count : ℕ) → GoesOn at count n → IsBehind at count next
  pub does : (bits : List Bool) → length bits ≤ p.bits → (v : ℕ → Bool) → Runs ns (bit_at bits) v
      → DoesAct s p kinds nodes bits node n next ns v here old stored on ends

-- Behind a step that wrote the store the gates go past the node, of whatever graph and with whatever number.
pub record GoesOnBy (ns new_ns : List Gates) (next : ℕ) (here : Arrival) (on : ℕ) (ends : Ends) (mid new : Before) : Type 0 where
  pub past : (s : Source) (p : Layout) (nodes : List Node) (node : ℕ) (n : Node) → slice_get nodes node ≡ Some n
      → (old_ns : List Gates) → Grown old_ns ns → (old : Before) → WroteStore old mid → (h : IsAt s p nodes node old_ns old here)
      → DoesActs s p h.kinds.temps nodes node ns n next here old mid.store.locations.items on ends
      → IsBefore s p nodes (node + 1) new_ns new
