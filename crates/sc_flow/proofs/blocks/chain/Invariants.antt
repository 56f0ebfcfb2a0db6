use Rattle.std.proofs.Common.{◌≡◌, map, take}
use Rattle.std.specs.Prelude.{reverse}
use Rattle.flow_graph.specs.Statements as spec
use Rattle.sc_flow.specs.Seen.{structs_of, growing, chosen}
use Rattle.sc_flow.proofs.blocks.chain.Given as goal

abbrev pub invariant-loop-case : goal.invariant-loop-case
invariant-loop-case l =
    (l.at, growing (structs_of l.here) l.g)
    ≡ spec.chain l.from (reverse (map chosen (take l.case-index l.cases))) l.default (growing (structs_of l.fn.here) l.fn.g)
