-- What stays when ends give no value.
use Rattle.std.specs.Prelude.{◌≡◌, ℕ, Bool, true, List, length}
use Rattle.sc_world.specs.Source.{Source}
use Rattle.sc_world.specs.Layout.{Layout}
use Rattle.sc_world.specs.World.{World}
use Rattle.flow_graph.specs.Nodes.{Node, walk}
use Rattle.flow_graph.specs.Conditions.{Held, AllFine, kept_first}
use Rattle.flow_graph.specs.Laws.{AllGoOn}
use Rattle.flow_types.specs.Kinds.{Kinds}
use Rattle.flow_types.specs.Nodes.{AllFit}
use Rattle.flow_exits.specs.Exits.{ending}

-- the walk is the same, of whatever nodes
abbrev pub WalksStay : Type 0
WalksStay = (s : Source) (p : Layout) (choice : List Bool) (nodes : List Node) (w : World) → walk s p choice (ending p nodes) w ≡ walk s p choice nodes w

-- and what is asked of nodes holds of them
pub record Stay (p : Layout) (nodes : List Node) : Type 0 where
  pub count : length (ending p nodes) ≡ length nodes
  pub on : (first many : ℕ) → AllGoOn first many nodes → AllGoOn first many (ending p nodes)
  pub fine : (temps slots : ℕ) → AllFine temps slots nodes → AllFine temps slots (ending p nodes)
  pub kept : (m : Held) (first at : ℕ) → kept_first m first nodes at ≡ true → kept_first m first (ending p nodes) at ≡ true
  pub fit : (s : Source) (k : Kinds) → AllFit s p k nodes → AllFit s p k (ending p nodes)

abbrev pub NodesStay : Type 0
NodesStay = (p : Layout) (nodes : List Node) → Stay p nodes
