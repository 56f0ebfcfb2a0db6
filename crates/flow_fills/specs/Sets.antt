-- Nodes that set a local to one value, behind the evaluation of their expressions. `old` is what stood before the evaluation, which wrote
-- the store alone.
use Rattle.std.specs.Prelude.{◌≡◌, ℕ, ◌+◌, Some, List, slice_get}
use Rattle.bit_net.specs.declared.nodes.Node.{Node as Gates}
use Rattle.bit_net.specs.Runs.{Grown}
use Rattle.run_laws.specs.Fits.{if_scalar}
use Rattle.sc_world.specs.declared.run.Origin.TheVariants as origin
use Rattle.sc_world.specs.Tree.{Ty, type_of, Exp}
use Rattle.sc_world.specs.Source.{Source}
use Rattle.sc_world.specs.Layout.{Layout, location_of}
use Rattle.flow_graph.specs.Nodes.{Node, Set}
use Rattle.flow_graph.specs.Conditions.{temps_of}
use Rattle.flow_turns.specs.declared.before.Before.{Before}
use Rattle.flow_turns.specs.declared.before.Arrival.{Arrival}
use Rattle.flow_turns.specs.declared.steps.Made.{Made}
use Rattle.flow_turns.specs.Before.{IsAt, IsBefore}
use Rattle.flow_turns.specs.Steps.{WroteStore}
use Rattle.flow_keeps.specs.Evaluates.{Evaluates}
use Rattle.flow_keeps.specs.Keeps.{BeginsAt}

-- A local at that location is set to the value of an expression of that type.
pub record SetsLocal (s : Source) (p : Layout) (ns new_ns : List Gates) (t : Ty) (location next : ℕ) (here : Arrival) (made : Made) (mid new : Before) : Type 0 where
  pub past : (nodes : List Node) (node m : ℕ) (e : Exp) → slice_get nodes node ≡ Some (Set m e next) → location_of p (origin.Local m) ≡ location → type_of e ≡ t
      → (old_ns : List Gates) → Grown old_ns ns → (old : Before) → WroteStore old mid → IsAt s p nodes node old_ns old here
      → BeginsAt ns here old (temps_of e) made.on.at
      → Evaluates s p old.temps ns (if_scalar (type_of e)) e old.store.locations.items mid.store.locations.items made
      → IsBefore s p nodes (node + 1) new_ns new
