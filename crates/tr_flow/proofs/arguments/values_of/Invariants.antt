use Rattle.std.proofs.Common.{◌≤◌}
use Rattle.flow_graph.specs.Growing.{numbers}
use Rattle.tr_flow.specs.Arguments.{AreOf}
use Rattle.tr_flow.proofs.arguments.values_of.Given as goal

-- the values so far are those of the first temps
abbrev pub invariant-loop-at : goal.invariant-loop-at
invariant-loop-at l =
    record {
      are : AreOf l.temps (numbers l.numbers.first l.at) l.values.items;
      low : l.at ≤ l.numbers.count;
    }
