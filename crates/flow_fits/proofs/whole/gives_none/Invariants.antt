use Rattle.std.proofs.Common.{◌≡◌, map, drop}
use Rattle.sc_flow.specs.Seen.{node, structs_of}
use Rattle.flow_fits.specs.Encodable.{gives_none}
use Rattle.flow_fits.proofs.whole.gives_none.Given as goal

-- the nodes from there on
abbrev pub invariant-loop-node : goal.invariant-loop-node
invariant-loop-node l =
    gives_none (map (node (structs_of l.here)) (drop l.node-index l.nodes)) ≡ gives_none (map (node (structs_of l.fn.here)) l.fn.nodes)
