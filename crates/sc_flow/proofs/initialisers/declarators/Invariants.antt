use Rattle.std.proofs.Common.{◌≡◌, ◌≤◌, length, drop, map}
use Rattle.sc_world.specs.View.{dec}
use Rattle.flow_graph.specs.Statements as spec
use Rattle.sc_flow.specs.Seen.{structs_of, growing}
use Rattle.sc_flow.proofs.initialisers.declarators.Given as goal

abbrev pub invariant-loop-k : goal.invariant-loop-k
invariant-loop-k l = record {
  made :
      (l.at, growing (structs_of l.here) l.g)
      ≡ spec.declarators (map (dec (structs_of l.here)) (drop l.k l.list)) l.turn l.next (growing (structs_of l.fn.here) l.fn.g);
  few : l.k ≤ length l.list;
}

abbrev pub decreases-loop-k : goal.decreases-loop-k
decreases-loop-k l = l.k
