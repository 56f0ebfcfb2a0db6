-- Which functions have gates, and which have none. The graph of a function is what its text is unrolled to; a graph of the code
-- stands for it if it is that one as contracts see it.
use Rattle.std.specs.Prelude.{◌≡◌, ◌<◌, ◌≤◌, ◌^◌, true, false, length}
use Rattle.sc_world.specs.Source.{Source}
use Rattle.sc_world.specs.Layout.{Layout}
use Rattle.flow_graph.specs.Unrolled.{flow as graph_of}
use Rattle.flow_fits.specs.Encodable.{can_encode}
use Rattle.sc_flow.specs.Seen.{flow as seen_as}
use Rattle.sc_flow.specs.declared.flow.Flow.{Flow}
use Rattle.tr_flow.specs.Taken.{all_have}

-- it has few locations, can be told by gates at all, and each node of its graph has gates
pub record HaveGates (s : Source) (p : Layout) : Type 0 where
  pub few : length p.locations < 2 ^ 32
  pub can : can_encode s p ≡ true
  pub graph : Flow
  pub unrolled : seen_as s.structs graph ≡ graph_of s
  pub have : all_have s p graph.nodes ≡ true

pub data LackGates (s : Source) (p : Layout) : Type 0 where
  -- too many locations for numbers of 32 bits
  Many : 2 ^ 32 ≤ length p.locations → LackGates s p
  -- it does not fit its layout, gives an object, or reads a value of type `void` that is neither dropped nor what a call or a cast gives at its end
  Cannot : can_encode s p ≡ false → LackGates s p
  -- a node of its graph has no gates
  Lacks : (graph : Flow) → seen_as s.structs graph ≡ graph_of s → all_have s p graph.nodes ≡ false → LackGates s p
