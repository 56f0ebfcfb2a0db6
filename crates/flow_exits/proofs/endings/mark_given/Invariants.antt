use Rattle.std.proofs.Common.{◌≡◌, ◌<◌, ◌||◌, ℕ, length, map, drop}
use Rattle.sc_flow.specs.Seen.{node, structs_of}
use Rattle.flow_exits.specs.Exits.{is_given}
use Rattle.flow_exits.specs.Marks.{marked}
use Rattle.flow_exits.proofs.endings.mark_given.Given as goal

-- what is marked by now, or is given from there on
abbrev pub invariant-loop-node : goal.invariant-loop-node
invariant-loop-node l =
    (m : ℕ) → m < length l.fn.flags → (is_given (map (node (structs_of l.here)) (drop l.node-index l.nodes)) m || marked l.flags m)
    ≡ (is_given (map (node (structs_of l.fn.here)) l.fn.nodes) m || marked l.fn.flags m)
