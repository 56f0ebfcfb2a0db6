use Rattle.std.proofs.Common.{◌≡◌, ◌++◌, List, length, map, take, drop}
use Rattle.sc_world.specs.Source.{Struct}
use Rattle.flow_graph.specs.Unrolled.{turned}
use Rattle.sc_flow.specs.Seen.{node}
use Rattle.sc_flow.proofs.flow.turn.Given as goal

abbrev pub invariant-loop-k : goal.invariant-loop-k
invariant-loop-k l = record {
  turned :
      (structs : List Struct) → map (node structs) l.nodes
      ≡ map (turned l.entry) (map (node structs) (take l.k l.fn.nodes)) ++ map (node structs) (drop l.k l.fn.nodes);
  same : length l.nodes ≡ length l.fn.nodes;
}
