use Rattle.std.proofs.Common.{◌≡◌, ◌+◌, ◌≤◌, length, drop, map}
use Rattle.sc_world.specs.View.{given}
use Rattle.flow_graph.specs.Statements.{all_kept}
use Rattle.sc_flow.specs.Seen.{structs_of, growing}
use Rattle.sc_flow.proofs.initialisers.values.Given as goal

abbrev pub invariant-loop-k : goal.invariant-loop-k
invariant-loop-k l = record {
  made :
      (l.at, growing (structs_of l.here) l.g)
      ≡ all_kept (map (given (structs_of l.here)) (drop l.k l.items)) l.turn (l.first + l.k) l.next (growing (structs_of l.fn.here) l.fn.g);
  few : l.k ≤ length l.items;
}

abbrev pub decreases-loop-k : goal.decreases-loop-k
decreases-loop-k l = l.k
