use Rattle.std.proofs.Common.{◌≡◌, map, drop}
use Rattle.layout_base.specs.Seen.{layout_of}
use Rattle.sc_flow.specs.Seen.{node, structs_of}
use Rattle.flow_exits.specs.Exits as exits
use Rattle.flow_exits.specs.Marks.{marked}
use Rattle.flow_exits.proofs.endings.all_give_nothing.Given as goal

-- the nodes from there on keep nothing in marked temps
abbrev pub invariant-loop-node : goal.invariant-loop-node
invariant-loop-node l =
    exits.all_give_nothing (layout_of l.layout.places.now) (marked l.flags) (map (node (structs_of l.here)) (drop l.node-index l.nodes))
    ≡ exits.all_give_nothing (layout_of l.fn.layout.places.now) (marked l.fn.flags) (map (node (structs_of l.fn.here)) l.fn.nodes)
