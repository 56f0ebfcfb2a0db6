-- Nodes that keep the value of an expression, or its place.
use Rattle.std.specs.Prelude.{◌≡◌, ℕ, ◌+◌, false, ◌&&◌, Some, List, slice_get}
use Rattle.bit_net.specs.declared.nodes.Node.{Node as Gates}
use Rattle.bit_net.specs.Runs.{Grown, Gives}
use Rattle.sc_world.specs.Tree.{Exp}
use Rattle.sc_world.specs.Source.{Source}
use Rattle.sc_world.specs.Layout.{Layout}
use Rattle.sc_world.specs.Eval.{Want}
use Rattle.flow_graph.specs.Nodes.{Node, Keep}
use Rattle.flow_graph.specs.Conditions.{temps_of}
use Rattle.flow_turns.specs.declared.before.Before.{Before}
use Rattle.flow_turns.specs.declared.before.Arrival.{Arrival}
use Rattle.flow_turns.specs.declared.steps.Made.{Made}
use Rattle.flow_turns.specs.Before.{IsAt, IsBefore, drops}
use Rattle.flow_turns.specs.Steps.{WroteStore}
use Rattle.flow_keeps.specs.Evaluates.{Evaluates}
use Rattle.flow_keeps.specs.Reads.{each_sure}

-- The step begins where the walk is at the node and each temp that it reads may be used.
abbrev pub BeginsAt : (ns : List Gates) → Arrival → Before → List ℕ → (on : ℕ) → Type 0
BeginsAt ns here old named on = Gives ns on (λ choice v. v here.gate.at && each_sure v old.temps named)

-- Behind the evaluation of its expression the gates go past the node, of whatever function and with whatever number. `old` is what stood
-- before the evaluation, which wrote the store alone.
pub record KeepsValue (ns new_ns : List Gates) (temp next : ℕ) (here : Arrival) (made : Made) (mid new : Before) : Type 0 where
  pub past : (s : Source) (p : Layout) (nodes : List Node) (node : ℕ) (want : Want) (e : Exp) → slice_get nodes node ≡ Some (Keep want temp e next) → drops (Keep want temp e next) ≡ false
      → (old_ns : List Gates) → Grown old_ns ns → (old : Before) → WroteStore old mid → IsAt s p nodes node old_ns old here
      → BeginsAt ns here old (temps_of e) made.on.at
      → Evaluates s p old.temps ns want e old.store.locations.items mid.store.locations.items made
      → IsBefore s p nodes (node + 1) new_ns new
