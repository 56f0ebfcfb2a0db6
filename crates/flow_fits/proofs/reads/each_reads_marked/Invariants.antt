use Rattle.std.proofs.Common.{◌≡◌, map, drop}
use Rattle.sc_flow.specs.Seen.{node, structs_of}
use Rattle.flow_exits.specs.Marks.{marked}
use Rattle.flow_fits.specs.Voids.{each_read}
use Rattle.flow_fits.proofs.reads.each_reads_marked.Given as goal

-- the nodes from there on read marked temps
abbrev pub invariant-loop-node : goal.invariant-loop-node
invariant-loop-node l =
    each_read (marked l.flags) (map (node (structs_of l.here)) (drop l.node-index l.nodes))
    ≡ each_read (marked l.fn.flags) (map (node (structs_of l.fn.here)) l.fn.nodes)
