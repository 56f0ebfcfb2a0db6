-- The gates before a node of a graph: in which choice they tell where the walk is, and what a node makes of them.
use Rattle.std.specs.Prelude.{◌≡◌, ℕ, ◌+◌, ◌≤◌, nat_eq, Bool, true, false, ◌&&◌, ◌||◌, Some, List, length, slice_get}
use Rattle.bit_net.specs.declared.nodes.Node.{Node as Gates}
use Rattle.bit_net.specs.Runs.{Runs, Gives}
use Rattle.gl_store.specs.Meets.{Meets, MeetsAll, val_kind, val_top, kinds, locations_top}
use Rattle.gl_store.specs.Steps.{IsBlank}
use Rattle.gate_runs.specs.Stands.{told}
use Rattle.sc_world.specs.Tree.{Exp, Cast, Convert, Temp, is_void}
use Rattle.sc_world.specs.Eval.{Value}
use Rattle.sc_world.specs.Source.{Source}
use Rattle.sc_world.specs.Layout.{Layout}
use Rattle.sc_world.specs.World.{bit_at, kind_of_type}
use Rattle.run_laws.specs.Fits.{is_scalar}
use Rattle.run_store.specs.Concrete.{Cell}
use Rattle.flow_graph.specs.Nodes.{Node, Keep, Exit, Kept}
use Rattle.flow_graph.specs.Conditions.{InTemp, among, read_by, AllFine}
use Rattle.flow_graph.specs.Laws.{AllGoOn}
use Rattle.flow_types.specs.Kinds.{Kinds}
use Rattle.flow_types.specs.Nodes.{AllFit}
use Rattle.flow_ways.specs.Held.{any, held as waits_at, AreSplits, ways_top}
use Rattle.flow_ways.specs.Steps.{AreWithin}
use Rattle.flow_ends.specs.Fates.{AreFates, is_touched}
use Rattle.flow_ends.specs.Encoded.{kinds_of}
use Rattle.flow_stages.specs.Stage.{View, Stage}
use Rattle.flow_turns.specs.declared.before.Before.{Before}
use Rattle.flow_turns.specs.declared.before.Arrival.{Arrival}
use Rattle.flow_turns.specs.Kept.{HaveKept, HaveSome, AreTemps, HaveKinds, is_for_void}

-- Gates of the net.

-- all of them are gates of the net, and the two sides of each branch are what came to it
pub record AreGates (ns : List Gates) (x : Before) : Type 0 where
  pub store : locations_top x.store.locations.items ≤ length ns
  pub temps : AreTemps ns x.temps
  pub ways : AreWithin (length ns) x.ways
  pub splits : AreSplits ns x.ways.splits.items
  pub fates : AreFates ns (length x.fates.bads.items) x.fates
  pub result : val_top x.result ≤ length ns
  pub blank : val_top x.blank ≤ length ns

-- the gate holds where one of the ways does
pub record IsHere (ns : List Gates) (here : Arrival) : Type 0 where
  pub ways : ways_top here.ways.items ≤ length ns
  pub gate : Gives ns here.gate.at (λ choice v. any v here.ways.items)

-- What they tell in one choice.

-- what they have, for the values v of all gates
abbrev pub seen : (v : ℕ → Bool) → Layout → Kinds → Before → View
seen v p k x =
    record {
      held = waits_at v x.ways.waits.items;
      over = v x.fates.over.at;
      bad = told v x.fates.bads.items;
      touched = is_touched v x.fates;
      Stored = MeetsAll v x.store.locations.items;
      Temps = HaveKept v p k.temps x.temps;
      Gives = Meets v x.result;
    }

-- the same, where ways stand at the node besides those that wait
abbrev pub arrived : (v : ℕ → Bool) → Layout → Kinds → (node : ℕ) → Arrival → Before → View
arrived v p k node here x =
    record {
      held = λ q. waits_at v x.ways.waits.items q || (nat_eq node q && v here.gate.at);
      over = v x.fates.over.at;
      bad = told v x.fates.bads.items;
      touched = is_touched v x.fates;
      Stored = MeetsAll v x.store.locations.items;
      Temps = HaveKept v p k.temps x.temps;
      Gives = Meets v x.result;
    }

-- where the walk is, and that temps, slots and the result have something in any case
pub record Tells (s : Source) (p : Layout) (k : Kinds) (nodes : List Node) (bits : List Bool) (node : ℕ) (v : ℕ → Bool) (x : Before) (view : View) : Type 0 where
  pub stage : Stage (record { source = s; layout = p; bits = bits }) nodes (length p.locations) node view
  pub other : Kept
  pub some : HaveSome v p k.temps x.temps other
  pub given : Cell
  pub gives : Meets v x.result given

-- Graphs.

-- a value of type `void` that a temp keeps, once more as one of type `void`
abbrev pub drops_value : Exp → Bool
drops_value (Cast (Temp m t) u) = is_void t && is_void u
drops_value (Convert (Temp m t) u) = is_void t && is_void u
drops_value _ = false

-- the node keeps such a value: it does nothing
abbrev pub drops : Node → Bool
drops (Keep Value m e next) = drops_value e
drops _ = false

-- no other node reads a temp that is for values of type `void`
abbrev pub ReadsNoVoid : Kinds → List Node → Type 0
ReadsNoVoid k nodes = (at m : ℕ) (n : Node) → slice_get nodes at ≡ Some n → drops n ≡ false → among (InTemp m) (read_by n) ≡ true
    → is_for_void (slice_get k.temps m) ≡ false

-- a function that gives a value gives a number or a pointer
abbrev pub GivesScalars : Source → List Node → Type 0
GivesScalars s nodes = (at m : ℕ) → slice_get nodes at ≡ Some (Exit (Some m)) → is_scalar s.result ≡ true

-- Each node goes on at later ones, its numbers are in range, and what it reads and keeps has the type for it. Values of type `void` are
-- read by nodes alone that drop them, and objects are not given as values.
pub record IsFit (s : Source) (p : Layout) (k : Kinds) (nodes : List Node) : Type 0 where
  pub on : AllGoOn 0 (length nodes) nodes
  pub fine : AllFine (length k.temps) (length k.slots) nodes
  pub types : AllFit s p k nodes
  pub void : ReadsNoVoid k nodes
  pub scalar : GivesScalars s nodes

-- what does not hang on the choice: the kinds of cells, and what a function gives that ends without a value
pub record IsShaped (s : Source) (p : Layout) (k : Kinds) (ns : List Gates) (x : Before) : Type 0 where
  pub locations : length x.fates.bads.items ≡ length p.locations
  pub kinds : kinds x.store.locations.items ≡ kinds_of s p.locations
  pub temps : HaveKinds s k x.temps
  pub result : val_kind x.result ≡ kind_of_type s (Some s.result)
  pub blank : IsBlank ns (kind_of_type s (Some s.result)) x.blank

-- Before the node with that number the gates tell of each run where its walk is.
pub record IsBefore (s : Source) (p : Layout) (nodes : List Node) (node : ℕ) (ns : List Gates) (x : Before) : Type 0 where
  pub kinds : Kinds
  pub fit : IsFit s p kinds nodes
  pub shape : IsShaped s p kinds ns x
  pub tells : (bits : List Bool) → length bits ≤ p.bits → (v : ℕ → Bool) → Runs ns (bit_at bits) v
      → Tells s p kinds nodes bits node v x (seen v p kinds x)

-- The same, when the ways that came to the node are taken.
pub record IsAt (s : Source) (p : Layout) (nodes : List Node) (node : ℕ) (ns : List Gates) (x : Before) (here : Arrival) : Type 0 where
  pub kinds : Kinds
  pub fit : IsFit s p kinds nodes
  pub shape : IsShaped s p kinds ns x
  pub gone : (v : ℕ → Bool) → waits_at v x.ways.waits.items node ≡ false
  pub tells : (bits : List Bool) → length bits ≤ p.bits → (v : ℕ → Bool) → Runs ns (bit_at bits) v
      → Tells s p kinds nodes bits node v x (arrived v p kinds node here x)

-- the ways that wait at the node are taken, for any graph
pub record Arrives (old_ns new_ns : List Gates) (node : ℕ) (old new : Before) (here : Arrival) : Type 0 where
  pub at : (s : Source) (p : Layout) (nodes : List Node) → IsBefore s p nodes node old_ns old → IsAt s p nodes node new_ns new here

-- The gates go past the node, of whatever graph and with whatever number.
pub record GoesBy (old_ns new_ns : List Gates) (n : Node) (here : Arrival) (old new : Before) : Type 0 where
  pub past : (s : Source) (p : Layout) (nodes : List Node) (node : ℕ) → slice_get nodes node ≡ Some n → IsAt s p nodes node old_ns old here
      → IsBefore s p nodes (node + 1) new_ns new
