-- A function's graph, as what the definitions are made of.
use Rattle.std.specs.Prelude.{◌≡◌, ℕ, ◌<◌, ◌≤◌, ◌^◌, List, length, map, Some, slice_get}
use Rattle.bit_net.specs.declared.nodes.Node.{Node as Gates}
use Rattle.bit_net.specs.Circuit.{input_count}
use Rattle.sc_world.specs.Source.{Source}
use Rattle.sc_world.specs.Layout.{Layout}
use Rattle.flow_graph.specs.Nodes as graph
use Rattle.flow_exits.specs.Exits.{flow_in_gates}
use Rattle.flow_types.specs.Nodes.{AreOfOneType}
use Rattle.flow_turns.specs.declared.before.Before.{Before}
use Rattle.flow_turns.specs.declared.before.Arrival.{Arrival}
use Rattle.flow_turns.specs.Before.{AreGates, IsAt, IsBefore, IsHere, ReadsNoVoid, GivesScalars}
use Rattle.sc_flow.specs.declared.flow.Flow.{Flow}
use Rattle.sc_flow.specs.Seen.{node}

abbrev pub nodes_of : Source → Flow → List graph.Node
nodes_of s f = map (node s.structs) f.nodes

-- locations have numbers of 32 bits, and the bits of the choice are inputs of the net
pub record IsSmall (p : Layout) (ns : List Gates) : Type 0 where
  pub few : length p.locations < 2 ^ 32
  pub inputs : p.bits ≤ input_count ns

-- the gates tell each walk that comes to the node with that number
abbrev pub IsBeforeNode : Source → Layout → Flow → ℕ → List Gates → Before → Type 0
IsBeforeNode s p f at ns x = IsBefore s p (nodes_of s f) at ns x

-- The gates are at a node.
pub record IsThere (s : Source) (p : Layout) (f : Flow) (at : ℕ) (n : graph.Node) (ns : List Gates) (x : Before) (here : Arrival) : Type 0 where
  pub small : IsSmall p ns
  pub gates : AreGates ns x
  pub ways : IsHere ns here
  pub node : slice_get (nodes_of s f) at ≡ Some n
  pub stands : IsAt s p (nodes_of s f) at ns x here

-- Each temp of the graph has one kind by which all nodes fit. In the graph of which gates are made no node reads a temp for values of type
-- `void` but to drop it, and if it gives a value, that is a number or a pointer.
pub record CanEncode (s : Source) (p : Layout) : Type 0 where
  pub types : AreOfOneType s p
  pub void : ReadsNoVoid types.kinds (flow_in_gates s p).nodes
  pub scalar : GivesScalars s (flow_in_gates s p).nodes
