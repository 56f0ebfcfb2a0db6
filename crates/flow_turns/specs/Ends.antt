-- Where the walk over a graph begins.
use Rattle.std.specs.Prelude.{◌≡◌, ℕ, ◌<◌, ◌≤◌, Bool, true, false, Some, List, [], ◌∷◌, length}
use Rattle.bit_net.specs.declared.nodes.Node.{Node as Gates}
use Rattle.bit_net.specs.Runs.{Runs}
use Rattle.gate_runs.specs.Stands.{told}
use Rattle.gl_store.specs.declared.stores.Store.{Store}
use Rattle.gl_store.specs.declared.values.Val.{Val}
use Rattle.gl_store.specs.declared.values.Val.TheVariants as val
use Rattle.gl_store.specs.Meets.{MeetsAll, kinds}
use Rattle.gl_store.specs.Steps.{IsBlank}
use Rattle.sc_world.specs.Source.{Source}
use Rattle.sc_world.specs.Layout.{Layout}
use Rattle.sc_world.specs.World.{bit_at, kind_of_type, entry_world}
use Rattle.sc_world.specs.Exec.{run}
use Rattle.flow_graph.specs.Nodes.{Node, walk}
use Rattle.flow_graph.specs.Conditions.{Held, kept_first}
use Rattle.flow_types.specs.Kinds.{Kinds}
use Rattle.flow_ends.specs.Encoded.{kinds_of}
use Rattle.flow_turns.specs.declared.before.Before.{Before}
use Rattle.flow_turns.specs.declared.temps.Slot.{Slot}
use Rattle.flow_turns.specs.declared.temps.Temps.{Temps}
use Rattle.flow_turns.specs.Kept.{val_at, is_kept, AreTemps}
use Rattle.flow_turns.specs.Before.{IsFit, IsBefore}

-- slots without cells
abbrev pub AreBlank : List Slot → Type 0
AreBlank [] = Unit {0}
AreBlank (x ∷ xs) = (x.cells.items ≡ []) × AreBlank xs

-- so many temps and slots that no node has kept
pub record AreUnkept (ns : List Gates) (temps slots : ℕ) (t : Temps) : Type 0 where
  pub are : AreTemps ns t
  pub many_temps : length t.vals.items ≡ temps
  pub many_slots : length t.slots.items ≡ slots
  pub vals : (m : ℕ) → val_at t m ≡ val.Unit
  pub sure : (choice v : ℕ → Bool) → Runs ns choice v → (m : ℕ) → told v t.sure.items m ≡ false
  pub kept : (m : ℕ) → is_kept t m ≡ false
  pub blank : AreBlank t.slots.items

-- A store is that of the world at entry, for every choice.
pub record IsEntry (s : Source) (p : Layout) (ns : List Gates) (store : Store) : Type 0 where
  pub kinds : kinds store.locations.items ≡ kinds_of s p.locations
  pub meets : (bits : List Bool) → length bits ≤ p.bits → (v : ℕ → Bool) → Runs ns (bit_at bits) v → MeetsAll v store.locations.items (entry_world s p bits).places

-- a graph has a first node, and on every way to a node that reads a temp or a slot a node before it keeps that one
pub record CanBegin (nodes : List Node) : Type 0 where
  pub some : 0 < length nodes
  pub kept : (m : Held) → kept_first m 0 nodes 0 ≡ true

-- the walk is at the first node
pub record Begins (ns : List Gates) (store : Store) (blank : Val) (locations temps slots : ℕ) (x : Before) : Type 0 where
  pub at : (s : Source) (p : Layout) (k : Kinds) (nodes : List Node) → IsFit s p k nodes → CanBegin nodes → IsEntry s p ns store
      → IsBlank ns (kind_of_type s (Some s.result)) blank → length p.locations ≡ locations → length k.temps ≡ temps → length k.slots ≡ slots
      → IsBefore s p nodes 0 ns x

-- the walk over the nodes is the run of the function, for every choice
abbrev pub AreRuns : Source → Layout → List Node → Type 0
AreRuns s p nodes = (choice : List Bool) → walk s p choice nodes (entry_world s p choice) ≡ run s p choice
